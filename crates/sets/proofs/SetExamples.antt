-- The examples of sets, carried through the definitions by a result that antt computes.
use Rattle.model.proofs.Prelude.{refl, start, indexed, over, within, bytes_of, part, value_of, admissible, cleared, fresh, halted, put_globals, put_locals, stored}
use Rattle.model.proofs.Prelude.{with_special, put_refusal, put_state}
use Rattle.machine.specs.Octabytes.{octas}
use Rattle.sets.specs.Sets.{put_pairs, all_or_none, put_set_of, pairs_of, pairs_in}
use Rattle.sets.specs.examples.SetExamples.{gives, all_give, set_examples, SetExamplesMet}

pub set_examples_met : SetExamplesMet
unfolding over indexed within part value_of bytes_of admissible fresh halted with_special cleared stored put_locals put_globals put_refusal put_state start octas put_pairs all_or_none put_set_of pairs_of pairs_in gives all_give set_examples
set_examples_met = record { examples = refl; odd_last = refl; part_of_pair = refl }
