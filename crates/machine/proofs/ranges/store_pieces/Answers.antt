-- `store_pieces` meets its contract: none are written at first, a turn writes a piece more, and all are written in the end.
use Rattle.model.proofs.Prelude.{ℕ, ◌%◌, ◌*◌, ◌+◌, ◌-◌, ◌^◌, ap, refl, ◌∙◌, ◌≡◌, arith, get_or, both, lent}
use Rattle.machine.specs.Octas.{written_run, written_range_by}
use Rattle.machine.proofs.Octas.{run_none}
use Rattle.machine.proofs.BothOctas.{run_lengths, run_further}
use Rattle.machine.proofs.ranges.store_pieces.Goals as goal

pub loop-i-init : goal.loop-i-init
loop-i-init c = (run_none both _ _ _ _ (omega arith), omega arith, omega arith, refl, refl)

pub store_piece-i-requires : goal.store_piece-i-requires
store_piece-i-requires c = (omega arith, omega (arith, c.min-end.ensures))

pub loop-i-smaller : goal.loop-i-smaller
loop-i-smaller c = omega (arith, c.store_piece-i.ensures.1)

pub loop-i-preserved : goal.loop-i-preserved
loop-i-preserved c =
    let call = c.store_piece-i in
    let a = c.args in
    let i = c.loop-i.i in
    let here : c.wrapping_add-place.result % 2 ^ 64 ≡ (a.addr + 8 * (i - a.from)) % 2 ^ 64 = omega (arith, c.wrapping_add-place.ensures) in
    let lengths = run_lengths _ _ _ _ _ _ _ _ call.ensures.0 in (
      run_further _ _ _ a.addr _ a.from i _ a.general.now c.loop-i.invariant.1 (omega (arith, call.ensures.1)) here c.loop-i.invariant.0 call.ensures.0,
      omega (arith, call.ensures.1, c.loop-i.invariant.1),
      omega (arith, call.ensures.2),
      lengths.0 ∙ c.loop-i.invariant.3,
      lengths.1 ∙ c.loop-i.invariant.4,
    )

pub shape_of-a : goal.shape_of-a
shape_of-a c = c.loop-i.invariant.3

pub shape_of-b : goal.shape_of-b
shape_of-b c = c.loop-i.invariant.4

pub returns : goal.returns
unfolding written_range_by
returns c =
    let a = c.args in
    c.loop-i.invariant.0
    ∙ ap (λ (n : ℕ). written_run (lent a.at a.a.now a.b.now) a.addr n (λ (k : ℕ). get_or a.general.now (a.from + k) 0)) (omega (arith, c.min-end.ensures))
