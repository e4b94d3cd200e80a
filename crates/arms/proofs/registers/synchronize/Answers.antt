-- `synchronize` meets its contract: each answer is its tests'.
use Rattle.model.proofs.Prelude.{made, halted}
use Rattle.arms.proofs.NoMemoryReplies.{sync_illegal, sync_privileged, sync_done}
use Rattle.arms.proofs.registers.synchronize.Goals as goal

pub returns-then-xyz-gt-LAST_SYNC : goal.returns-then-xyz-gt-LAST_SYNC
unfolding halted
returns-then-xyz-gt-LAST_SYNC c =
    λ general special marks mask.
    sync_illegal (made general special c.args.pc.now c.args.halt.now marks mask) _ (rw c.xyz_of-xyz.ensures.0 at c.if-xyz-gt-LAST_SYNC.true)

pub returns-then-xyz-ge-FIRST_KERNEL_SYNC : goal.returns-then-xyz-ge-FIRST_KERNEL_SYNC
unfolding halted
returns-then-xyz-ge-FIRST_KERNEL_SYNC c =
    λ general special marks mask.
    let a = c.args in
    sync_privileged (made general special a.pc.now a.halt.now marks mask) _ (rw c.xyz_of-xyz.ensures.0 at c.if-xyz-gt-LAST_SYNC.false)
    (rw c.xyz_of-xyz.ensures.0 at c.if-xyz-ge-FIRST_KERNEL_SYNC.true)

pub returns : goal.returns
returns c =
    λ general special marks mask.
    let a = c.args in
    sync_done (made general special a.pc.now a.halt.now marks mask) _ _ (rw c.xyz_of-xyz.ensures.0 at c.if-xyz-ge-FIRST_KERNEL_SYNC.false) c.following.ensures
