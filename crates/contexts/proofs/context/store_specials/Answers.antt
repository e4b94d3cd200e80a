-- `store_specials` meets its contract: none are stored at first, and a turn stores one more.
use Rattle.model.proofs.Prelude.{ℕ, ap, refl, ◌∙◌, arith, get_or, both}
use Rattle.contexts.proofs.Prelude.{run_more, written_lengths}
use Rattle.machine.proofs.Octas.{run_none}
use Rattle.contexts.proofs.context.store_specials.Goals as goal

pub loop-i-init : goal.loop-i-init
loop-i-init c = (run_none both _ _ _ _ (omega arith), refl, refl)

pub offset_bounds-special-k : goal.offset_bounds-special-k
offset_bounds-special-k c = omega (arith, c.save_special-k.ensures.1)

pub bounds-special-k : goal.bounds-special-k
bounds-special-k c = omega (arith, c.save_special-k.ensures.1)

pub loop-i-preserved : goal.loop-i-preserved
loop-i-preserved c =
    let call = c.write_octa in
    let special = c.args.special.now in
    let inv = c.loop-i.invariant in
    let lengths = written_lengths _ _ _ _ _ _ _ call.ensures.0 in (
      run_more _ _ _ _ _ _ _ _ inv.0 c.wrapping_add-place.ensures (ap (λ (k : ℕ). get_or special k 0) c.save_special-k.ensures.0) call.ensures.0,
      lengths.0 ∙ inv.1,
      lengths.1 ∙ inv.2,
    )
