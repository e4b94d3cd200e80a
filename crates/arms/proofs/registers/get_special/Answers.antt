-- `get_special` meets its contract: 5, 31, or special z, read first, goes into $X, and PC to the next tetra.
use Rattle.model.proofs.Prelude.{sym, ◌∙◌, state_lent, halted, got}
use Rattle.arms.proofs.NoMemoryReplies.{get_done, get_hidden, get_none}
use Rattle.arms.proofs.registers.get_special.Goals as goal

pub returns-then-z-gt-LAST_SPECIAL-clause-told : goal.returns-then-z-gt-LAST_SPECIAL-clause-told
returns-then-z-gt-LAST_SPECIAL-clause-told c = get_none _ _ _ c.if-z-gt-LAST_SPECIAL.true

pub returns-then-is_hidden-clause-told : goal.returns-then-is_hidden-clause-told
unfolding halted
returns-then-is_hidden-clause-told c =
    let a = c.args in
    let s = state_lent a.s.now in
    get_hidden s a.x a.z c.if-z-gt-LAST_SPECIAL.false (sym c.is_hidden.ensures ∙ c.if-is_hidden.true)

pub returns-clause-told : goal.returns-clause-told
unfolding got
returns-clause-told c =
    let a = c.args in
    let s = state_lent a.s.now in
    get_done s a.x a.z _ _ _ c.if-z-gt-LAST_SPECIAL.false (sym c.is_hidden.ensures ∙ c.if-is_hidden.false) (search (c.set_register.ensures s)) c.following-s.ensures
