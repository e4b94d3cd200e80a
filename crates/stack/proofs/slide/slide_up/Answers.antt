-- `slide_up` meets its contract: the registers from $0 on, to $by on.
use Rattle.model.proofs.Prelude.{ℕ, ◌-◌, ap, sym, arith, get_or, over_none}
use Rattle.stack.proofs.MovedRegisters.{over_copied}
use Rattle.stack.proofs.slide.slide_up.Goals as goal

pub returns-then-by-to : goal.returns-then-by-to
returns-then-by-to c =
    let a = c.args in
    let g = a.general.now in
    over_copied (λ (k : ℕ). get_or g (k - a.by) 0) 0 a.by (a.to - a.by - 0) a.to g c.copy_within.new.self (omega arith) c.copy_within.ensures.len
    (λ k p q. ap (λ (j : ℕ). get_or g j 0) (omega arith)) c.copy_within.ensures.by_index

pub returns-else-by-to : goal.returns-else-by-to
returns-else-by-to c = sym (over_none _ _ _ _ c.if-by-to.false)
