-- `set_special` meets its contract: a number above 31 names no register.
use Rattle.model.proofs.Prelude.{refl, ◌≡◌, arith, length, with_special}
use Rattle.script.proofs.Carries.{special_out}
use Rattle.std.proofs.Common.{rules}
use Rattle.script.proofs.script.set_special.Goals as goal

pub returns-then-k-le-RZZ : goal.returns-then-k-le-RZZ
unfolding with_special
returns-then-k-le-RZZ c = rw c.from-k.ensures refl

pub returns-else-k-le-RZZ : goal.returns-else-k-le-RZZ
returns-else-k-le-RZZ c =
    let good = c.well_formed in
    let h : length c.args.state.now.special ≡ 32 = search rules in
    special_out c.args.state.now _ _ (omega (arith, c.from-k.ensures))
