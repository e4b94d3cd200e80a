-- `load_pieces` meets its contract: none are loaded at first, a turn loads a piece more, and all are loaded in the end.
use Rattle.model.proofs.Prelude.{ℕ, ◌%◌, ◌*◌, ◌+◌, ◌-◌, ◌^◌, ap, sym, ◌∙◌, ◌≡◌, arith, over, lent, over_end, over_none}
use Rattle.machine.specs.Octas.{read_octa}
use Rattle.machine.proofs.BothOctas.{alike_at}
use Rattle.machine.proofs.RegisterRanges.{over_joined, over_cut}
use Rattle.machine.proofs.ranges.load_pieces.Goals as goal

pub loop-i-init : goal.loop-i-init
loop-i-init c = (sym (over_none _ _ _ _ (omega arith)), omega arith, omega arith)

pub load_piece-i-requires : goal.load_piece-i-requires
load_piece-i-requires c = (omega arith, omega (arith, c.min-end.ensures))

pub loop-i-smaller : goal.loop-i-smaller
loop-i-smaller c = omega (arith, c.load_piece-i.ensures.1)

pub loop-i-preserved : goal.loop-i-preserved
loop-i-preserved c =
    let a = c.args in
    let m = lent a.at a.a.now a.b.now in
    let i = c.loop-i.i in
    let f : ℕ → ℕ = λ k. read_octa m (a.addr + 8 * (k - a.from)) in
    let here : c.wrapping_add-place.result % 2 ^ 64 ≡ (a.addr + 8 * (i - a.from)) % 2 ^ 64 = omega (arith, c.wrapping_add-place.ensures) in (
      c.load_piece-i.ensures.0 ∙ rw c.loop-i.invariant.0
          (over_joined f _ a.from i _ a.general.now c.loop-i.invariant.1 (omega (arith, c.load_piece-i.ensures.1)) (λ k p q. alike_at m a.addr _ a.from i k c.loop-i.invariant.1 p here)),
      omega (arith, c.load_piece-i.ensures.1, c.loop-i.invariant.1),
      omega (arith, c.load_piece-i.ensures.2),
    )

pub returns : goal.returns
returns c =
    let a = c.args in
    let f : ℕ → ℕ = λ k. read_octa (lent a.at a.a.now a.b.now) (a.addr + 8 * (k - a.from)) in
    c.loop-i.invariant.0
    ∙ over_end _ _ _ _ _ (omega arith) (omega arith) (omega arith)
    ∙ ap (λ (n : ℕ). over f a.from n a.general.now) c.min-end.ensures
    ∙ over_cut f a.from a.to 256 a.general.now (omega arith)
