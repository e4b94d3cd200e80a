-- `clear_range` meets its contract: the part that is cleared is the range, cut to the registers that there are.
use Rattle.model.proofs.Prelude.{ℕ, ap, sym, ◌∙◌, arith, over, over_none}
use Rattle.machine.proofs.RegisterRanges.{over_cut, over_part}
use Rattle.machine.proofs.registers.clear_range.Goals as goal

pub returns-then-from-end : goal.returns-then-from-end
returns-then-from-end c =
    let a = c.args in
    over_part (λ (k : ℕ). 0) a.from c.min-end.result a.general.now c.clear.new.values (omega arith) (omega arith) (omega (arith, c.clear.ensures.0)) (λ i m. c.clear.ensures.1 i (omega (arith, c.clear.ensures.0)))
    ∙ ap (λ (n : ℕ). over (λ (k : ℕ). 0) a.from n a.general.now) c.min-end.ensures
    ∙ over_cut (λ (k : ℕ). 0) a.from a.to 256 a.general.now (omega arith)

pub returns-else-from-end : goal.returns-else-from-end
returns-else-from-end c =
    let a = c.args in
    sym (over_none (λ (k : ℕ). 0) a.from c.min-end.result a.general.now c.if-from-end.false)
    ∙ ap (λ (n : ℕ). over (λ (k : ℕ). 0) a.from n a.general.now) c.min-end.ensures
    ∙ over_cut (λ (k : ℕ). 0) a.from a.to 256 a.general.now (omega arith)
