-- `slide` meets its contract: n registers from $from on, to $0 on.
use Rattle.model.proofs.Prelude.{ℕ, ◌+◌, ◌-◌, ap, arith, get_or}
use Rattle.stack.proofs.MovedRegisters.{over_copied}
use Rattle.stack.proofs.slide.slide.Goals as goal

pub returns : goal.returns
returns c =
    let a = c.args in
    let g = a.general.now in
    over_copied (λ (k : ℕ). get_or g (a.from + k) 0) a.from 0 (a.from + a.n - a.from) a.n g c.copy_within.new.self (omega arith) c.copy_within.ensures.len
    (λ k p q. ap (λ (j : ℕ). get_or g j 0) (omega arith)) c.copy_within.ensures.by_index
