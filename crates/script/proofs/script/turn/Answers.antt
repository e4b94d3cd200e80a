-- `turn` meets its contract, form by form.
use Rattle.script.proofs.Prelude.{wrote_bad}
use Rattle.script.proofs.Carries.{leaves_register, leaves_special, leaves_bad}
use Rattle.script.proofs.script.turn.Goals as goal

pub returns-in_default-clause-written : goal.returns-in_default-clause-written
returns-in_default-clause-written c = rw c.in_default.is (leaves_bad _ _ _ _ _ _ _ (wrote_bad _ _ _ _ _ c.requires c.put_bad.ensures))

pub returns-in-Register-clause-written : goal.returns-in-Register-clause-written
returns-in-Register-clause-written c = rw (c.in-Some.is, c.in-Register.is) (leaves_register _ _ _ _ _ _ _ c.set_register.ensures)

pub returns-in-Special-clause-written : goal.returns-in-Special-clause-written
returns-in-Special-clause-written c = rw (c.in-Some.is, c.in-Special.is) (leaves_special _ _ _ _ _ _ _ c.set_special.ensures)
