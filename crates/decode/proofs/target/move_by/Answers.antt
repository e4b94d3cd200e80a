-- `move_by` meets its contract: its test tells the sign of 4 × the count, and each side applies the magnitude that the sign gives.
use Rattle.model.proofs.Prelude.{◌<◌, ◌^◌, ℤ, ◌≡◌, arith, false, lt_z, mag, pos, true, w64}
use mir.Val.{to_z, of_z}
use Rattle.decode.proofs.Counts.{fourfold, fourfold_small, Back, back, applied_back, Ahead, ahead, applied_ahead, moved}
use Rattle.decode.proofs.target.move_by.Goals as goal

-- the sign of 4 × a count
module _ (z : ℤ) (small : mag z < 2 ^ 24) where
  negative : lt_z (to_z w64 (of_z w64 (fourfold z))) (pos 0) ≡ true → Back (fourfold z)
  negative = back _ (fourfold_small z small)

  other : lt_z (to_z w64 (of_z w64 (fourfold z))) (pos 0) ≡ false → Ahead (fourfold z)
  other = ahead _ (fourfold_small z small)

pub overflow_mul-offset : goal.overflow_mul-offset
unfolding fourfold
overflow_mul-offset c = record { sfits = omega (arith, fourfold_small c.args.count c.requires) }

pub overflow_sub-offset : goal.overflow_sub-offset
unfolding fourfold
overflow_sub-offset c =
    let b = negative c.args.count c.requires c.if-offset-lt0.true in
    rw b.away (record { sfits = omega arith })

pub overflow_cast-offset : goal.overflow_cast-offset
unfolding fourfold
overflow_cast-offset c =
    let b = negative c.args.count c.requires c.if-offset-lt0.true in
    rw b.magnitude (tt, record { fits = omega arith })

pub returns-then-offset-lt0 : goal.returns-then-offset-lt0
unfolding fourfold
returns-then-offset-lt0 c =
    moved _ _ _ c.requires
    (applied_back _ _ (fourfold c.args.count) (negative c.args.count c.requires c.if-offset-lt0.true) c.wrapping_sub.ensures)

pub overflow_cast-offset-2 : goal.overflow_cast-offset-2
unfolding fourfold
overflow_cast-offset-2 c =
    let b = other c.args.count c.requires c.if-offset-lt0.false in
    rw b.magnitude (tt, record { fits = omega arith })

pub returns : goal.returns
unfolding fourfold
returns c =
    moved _ _ _ c.requires
    (applied_ahead _ _ (fourfold c.args.count) (other c.args.count c.requires c.if-offset-lt0.false) c.wrapping_add.ensures)
