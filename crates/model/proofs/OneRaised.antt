-- An instruction raises at most one flag, and is as it was before change 7. AddedFlags has what is added to rA.
use Rattle.model.proofs.Logic.{refl, ◌∙◌, count_leading_zeros}
use Rattle.model.specs.Registers.{with_special, fresh}
use Rattle.model.specs.Trips.{leftmost, added, raised}
use Rattle.model.specs.OneRaised.{added_before, raised_before, RaisesOne}
use Rattle.model.proofs.RowLaws.{Alike}
use Rattle.model.proofs.ArmLaws.{flags_are, plan_alike, plan_raised}
use Rattle.model.proofs.AddedFlags.{all_told, added_differs, exception_before, one_enabled}

before_alike : Alike raised_before raised
before_alike s f word u v o = exception_before s f word u v (one_enabled s f o)

pub raises_one : RaisesOne
raises_one = record {
  at_most_one = flags_are;
  by_raised = plan_raised;
  all_told = all_told;
  exception_before = exception_before;
  added_differs = added_differs;
  smallest = unfold leftmost added added_before with_special fresh count_leading_zeros in (refl, refl);
  plan_before = λ s a op x y z. plan_alike raised_before raised before_alike s a op x y z ∙ plan_raised s a op x y z;
}
