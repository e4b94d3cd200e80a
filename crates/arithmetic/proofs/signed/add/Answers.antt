-- `add` meets its contract: what is left of the exact sum, and whether it fits.
use Rattle.model.proofs.Prelude.{ap₂, ◌∙◌, ◌+ℤ◌, arith, signed_of, w64}
use Rattle.std.specs.Int.{int_wrapping_add}
use Rattle.std.proofs.lemmas.Int.{wrapping_add_is}
use Rattle.arithmetic.proofs.Sums.{exactly, passed_is, signed_fits}
use Rattle.arithmetic.proofs.signed.add.Goals as goal

pub returns : goal.returns
returns c =
    let a = c.args.a in
    let ey = passed_is a.y c.cast_signed.result (omega arith) c.cast_signed.ensures in
    let ez = passed_is a.z c.cast_signed-2.result (omega arith) c.cast_signed-2.ensures in
    let s = c.overflowing_add-x in
    exactly a s.result.1 s.result.0 _ _ (ap₂ ◌+ℤ◌ ey ez)
    (s.ensures.value ∙ ap₂ (int_wrapping_add w64) ey ez ∙ wrapping_add_is w64 (signed_of a.y) (signed_of a.z) (signed_fits a.y) (signed_fits a.z))
    c.cast_unsigned.ensures c.flag.ensures s.ensures.overflow
