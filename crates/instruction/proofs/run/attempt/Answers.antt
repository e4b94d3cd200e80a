-- `attempt` meets its contract: a branch, which claims nothing; a claim of a marginal register; or the arm alone.
use Rattle.model.proofs.Prelude.{true, ◌&&◌, sym, ◌∙◌, ◌≡◌, among, first_branch, last_branch, state_lent, windows_lent, is_marginal, Sized, claims}
use Rattle.model.proofs.Prelude.{opcode_in, x_in, y_in, z_in, and_left, and_right}
use Rattle.instruction.proofs.ClaimTakenBack.{tetra_claims, tetra_plain, tetra_branch}
use Rattle.instruction.proofs.EarlyRefusals.{done_numbered, numbered}
use Rattle.instruction.proofs.run.attempt.Goals as goal

pub returns-then-is_among-clause-numbered : goal.returns-then-is_among-clause-numbered
returns-then-is_among-clause-numbered c =
    let t = c.args.tetra in
    let w = windows_lent c.args.w.now in
    let s = state_lent c.args.s.now in
    let n : Sized s = record { generals = c.counted.ensures.0; specials = c.counted.ensures.1 } in
    let is : among first_branch last_branch (opcode_in t) ≡ true = rw c.from-i.ensures at (sym c.is_among.ensures ∙ c.if-is_among.true) in
    tetra_branch w s n c.requires.0 c.requires.1 t c.ranges.tetra.fits _ _ _ is
    (done_numbered w s (opcode_in t) (x_in t) (y_in t) (z_in t) _ _ c.requires.0 c.requires.1 is (rw c.from-i.ensures at (c.branch-s.ensures s.special s.halt s.marks s.mask)))

pub claimed-requires : goal.claimed-requires
claimed-requires c =
    let i = c.from-i.result in
    let s = state_lent c.args.s.now in
    let both : (is_marginal s i.x && claims i.op) ≡ true = sym (c.is_claimed.ensures s.general s.pc s.halt s.marks s.mask) ∙ c.if-is_claimed.true in
    (c.requires.0, c.requires.1, and_right (is_marginal s i.x) (claims i.op) both, and_left (is_marginal s i.x) (claims i.op) both)

pub returns-then-is_claimed-clause-numbered : goal.returns-then-is_claimed-clause-numbered
returns-then-is_claimed-clause-numbered c =
    let t = c.args.tetra in
    let w = windows_lent c.args.w.now in
    let s = state_lent c.args.s.now in
    let n : Sized s = record { generals = c.counted.ensures.0; specials = c.counted.ensures.1 } in
    let both : (is_marginal s (x_in t) && claims (opcode_in t)) ≡ true = rw c.from-i.ensures at (sym (c.is_claimed.ensures s.general s.pc s.halt s.marks s.mask) ∙ c.if-is_claimed.true) in
    tetra_claims w s n c.requires.0 c.requires.1 t c.ranges.tetra.fits _ _ _ (and_right (is_marginal s (x_in t)) (claims (opcode_in t)) both) (rw c.from-i.ensures at c.claimed.ensures.numbered)

pub returns-clause-numbered : goal.returns-clause-numbered
returns-clause-numbered c =
    let t = c.args.tetra in
    let w = windows_lent c.args.w.now in
    let s = state_lent c.args.s.now in
    let n : Sized s = record { generals = c.counted.ensures.0; specials = c.counted.ensures.1 } in
    tetra_plain w s n c.requires.0 c.requires.1 t c.ranges.tetra.fits _ _ _ (rw c.from-i.ensures at (sym (c.is_claimed.ensures s.general s.pc s.halt s.marks s.mask) ∙ c.if-is_claimed.false))
    (numbered _ _ _ _ _ _ _ _ _ (rw c.from-i.ensures at c.dispatch.ensures.replied))
