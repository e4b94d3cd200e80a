-- `asks_foreign` meets its contract: the octabyte at PC, and else what the arm asks on the claimed registers.
use Rattle.model.proofs.Prelude.{no_holder, some_holder, not}
use Rattle.model.proofs.Prelude.{ap}
use Rattle.model.proofs.Prelude.{[], made, denied, granted}
use Rattle.model.specs.Lent.{state_lent}
use Rattle.task_run.proofs.AsksArms.{unfetched_asks, fetched_asks, claim_counted, plain_claim, marginal_claim}
use Rattle.task_run.proofs.ask.asks_foreign.Goals as goal

pub returns-then-is_none : goal.returns-then-is_none
returns-then-is_none c = λ a.
    unfetched_asks _ _ c.requires.1 (made _ _ _ _ _ _) a c.requires.2 _ c.read_octa-found.ensures.1 (no_holder _ _ c.is_none.ensures c.if-is_none.true) _ c.is_foreign.ensures

pub returns-then-not-claims : goal.returns-then-not-claims
returns-then-not-claims c = λ a.
    fetched_asks _ _ c.requires.1 (state_lent c.args.state.now) a c.requires.2 _ c.read_octa-found.ensures.1 (some_holder _ _ c.is_none.ensures c.if-is_none.false) _ _ c.read_octa-found.ensures.0 c.tetra_at.ensures
    _ c.from-i.ensures
    (state_lent c.args.state.now) (plain_claim _ _ _ (denied _ _ c.claims.ensures (ap not c.if-not-claims.true))) _ (c.arm_asks.ensures _ _ _ _)

pub arm_asks-requires-2 : goal.arm_asks-requires-2
arm_asks-requires-2 c =
    (claim_counted (made _ _ 0 0 0 0) (made _ _ 0 0 0 0) _ (c.claim_local.ensures (made [] [] 0 0 0 0)) c.requires.0, c.requires.1)

pub returns : goal.returns
returns c = λ a.
    let s = state_lent c.args.state.now in
    fetched_asks _ _ c.requires.1 s a c.requires.2 _ c.read_octa-found.ensures.1 (some_holder _ _ c.is_none.ensures c.if-is_none.false) _ _ c.read_octa-found.ensures.0 c.tetra_at.ensures
    _ c.from-i.ensures
    (made c.claim_local.new.general c.claim_local.new.special s.pc s.halt s.marks s.mask)
    (marginal_claim _ _ _ _ (granted _ _ c.claims.ensures (ap not c.if-not-claims.false)) (c.claim_local.ensures s))
    _ (c.arm_asks-2.ensures _ _ _ _)
