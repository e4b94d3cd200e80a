-- `claimed_clear` meets its contract: rL alone is the claim, and a refusal leaves the other registers.
use Rattle.model.proofs.Prelude.{arith, refl, sym, ◌∙◌, state_lent, windows_lent, Sized}
use Rattle.instruction.proofs.ClaimTakenBack.{claim_clear, claim_judged, claim_kept, claim_gone_clear}
use Rattle.instruction.proofs.EarlyRefusals.{numbered}
use Rattle.instruction.proofs.claim.claimed_clear.Goals as goal

pub dispatch-reply-requires : goal.dispatch-reply-requires
dispatch-reply-requires c =
    let i = c.args.i in
    let w = windows_lent c.args.w.now in
    let s = state_lent c.args.s.now in
    let n : Sized s = record { generals = c.counted.ensures.0; specials = c.counted.ensures.1 } in
    (claim_judged w s _ i.op i.x i.y i.z n c.requires.0 c.requires.1 (omega arith) c.requires.2 (claim_clear s i.x c.requires.3 c.requires.4), c.requires.1)

pub returns-then-keeps_claim-clause-numbered : goal.returns-then-keeps_claim-clause-numbered
returns-then-keeps_claim-clause-numbered c =
    let i = c.args.i in
    let w = windows_lent c.args.w.now in
    let s = state_lent c.args.s.now in
    let n : Sized s = record { generals = c.counted.ensures.0; specials = c.counted.ensures.1 } in
    claim_kept w s _ i.op i.x i.y i.z n c.requires.0 c.requires.1 (omega arith) c.requires.2 (claim_clear s i.x c.requires.3 c.requires.4) _ _ _
    (numbered _ _ _ _ _ _ _ _ _ c.dispatch-reply.ensures.replied) (sym c.keeps_claim.ensures ∙ c.if-keeps_claim.true)

pub returns-clause-numbered : goal.returns-clause-numbered
returns-clause-numbered c =
    let i = c.args.i in
    let w = windows_lent c.args.w.now in
    let s = state_lent c.args.s.now in
    let n : Sized s = record { generals = c.counted.ensures.0; specials = c.counted.ensures.1 } in
    claim_gone_clear w s _ i.op i.x i.y i.z n c.requires.0 c.requires.1 (omega arith) c.requires.2 (claim_clear s i.x c.requires.3 c.requires.4) _ _ _
    (numbered _ _ _ _ _ _ _ _ _ c.dispatch-reply.ensures.replied) (sym c.keeps_claim.ensures ∙ c.if-keeps_claim.false) refl
