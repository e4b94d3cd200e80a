-- `run` meets its contract: it starts in the start and the windows of the definition.
use Rattle.model.proofs.Prelude.{refl, arith}
use Rattle.script.proofs.Prelude.{wrote_bad}
use Rattle.script.specs.Script.{windows}
use Rattle.script.proofs.Carries.{start_is, prints_long, prints_carried}
use Rattle.script.proofs.script.run.Goals as goal

pub returns-then-script-gt-SCRIPT_MOST : goal.returns-then-script-gt-SCRIPT_MOST
returns-then-script-gt-SCRIPT_MOST c =
    prints_long c.args.script.now _ _ _ c.if-script-gt-SCRIPT_MOST.true (wrote_bad _ _ _ _ _ (omega arith) c.put_bad.ensures)

pub returns : goal.returns
unfolding windows
returns c =
    prints_carried c.args.script.now _ _ _ c.if-script-gt-SCRIPT_MOST.false _ _ (start_is c.initialize-first.result c.initialize-first.ensures) refl c.carry.ensures
