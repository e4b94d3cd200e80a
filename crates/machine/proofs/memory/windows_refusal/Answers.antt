-- `windows_refusal` meets its contract: 2 of either window, then 22.
use Rattle.model.proofs.Prelude.{not, number_of}
use Rattle.model.proofs.Prelude.{ap}
use Rattle.model.proofs.Prelude.{sym, ◌∙◌, shape_of, shapes_of, ruled_a, ruled_b, denied, granted, none_unruled, unruled_shared, unruled_two}
use Rattle.machine.proofs.RunRefused.{first_unruled, second_unruled, both_ruled, shared_first, shared_second}
use Rattle.machine.proofs.memory.windows_refusal.Goals as goal

pub returns-then-not-is_ruled : goal.returns-then-not-is_ruled
unfolding shapes_of number_of
returns-then-not-is_ruled c = sym (unruled_two _ (first_unruled _ (denied _ _ c.is_ruled.ensures (ap not c.if-not-is_ruled.true))))

pub returns-then-not-is_ruled-2 : goal.returns-then-not-is_ruled-2
unfolding shapes_of number_of
returns-then-not-is_ruled-2 c =
    sym (unruled_two _ (second_unruled _ (granted _ _ c.is_ruled.ensures (ap not c.if-not-is_ruled.false)) (denied _ _ c.is_ruled-2.ensures (ap not c.if-not-is_ruled-2.true))))

pub are_apart-requires : goal.are_apart-requires
unfolding shapes_of shape_of
are_apart-requires c =
    let good = both_ruled _ (granted _ _ c.is_ruled.ensures (ap not c.if-not-is_ruled.false)) (granted _ _ c.is_ruled-2.ensures (ap not c.if-not-is_ruled-2.false)) in
    ((ruled_a _ good).base_aligned, (ruled_b _ good).base_aligned, (ruled_a _ good).size_most, (ruled_b _ good).size_most)

pub returns-then-are_apart : goal.returns-then-are_apart
unfolding shapes_of shape_of number_of
returns-then-are_apart c =
    let good = both_ruled _ (granted _ _ c.is_ruled.ensures (ap not c.if-not-is_ruled.false)) (granted _ _ c.is_ruled-2.ensures (ap not c.if-not-is_ruled-2.false)) in
    sym (none_unruled _ good (c.are_apart.ensures c.if-are_apart.true))

pub reaches-requires : goal.reaches-requires
unfolding shapes_of shape_of
reaches-requires c =
    let good = both_ruled _ (granted _ _ c.is_ruled.ensures (ap not c.if-not-is_ruled.false)) (granted _ _ c.is_ruled-2.ensures (ap not c.if-not-is_ruled-2.false)) in
    ((ruled_a _ good).base_aligned, (ruled_b _ good).base_aligned, (ruled_a _ good).size_octas)

pub returns-then-reaches : goal.returns-then-reaches
unfolding shapes_of shape_of number_of
returns-then-reaches c =
    let good = both_ruled _ (granted _ _ c.is_ruled.ensures (ap not c.if-not-is_ruled.false)) (granted _ _ c.is_ruled-2.ensures (ap not c.if-not-is_ruled-2.false)) in
    sym (unruled_shared _ good (sym (shared_first _ _ c.reaches.ensures c.if-reaches.true)))

pub reaches-requires-2 : goal.reaches-requires-2
unfolding shapes_of shape_of
reaches-requires-2 c =
    let good = both_ruled _ (granted _ _ c.is_ruled.ensures (ap not c.if-not-is_ruled.false)) (granted _ _ c.is_ruled-2.ensures (ap not c.if-not-is_ruled-2.false)) in
    ((ruled_b _ good).base_aligned, (ruled_a _ good).base_aligned, (ruled_b _ good).size_octas)

pub returns-then-reaches-2 : goal.returns-then-reaches-2
unfolding shapes_of shape_of number_of
returns-then-reaches-2 c =
    let good = both_ruled _ (granted _ _ c.is_ruled.ensures (ap not c.if-not-is_ruled.false)) (granted _ _ c.is_ruled-2.ensures (ap not c.if-not-is_ruled-2.false)) in
    let shared = shared_second _ _ _ c.reaches.ensures c.if-reaches.false c.reaches-2.ensures in
    sym (unruled_shared _ good (sym shared ∙ c.if-reaches-2.true))

pub returns : goal.returns
unfolding shapes_of shape_of number_of
returns c =
    let good = both_ruled _ (granted _ _ c.is_ruled.ensures (ap not c.if-not-is_ruled.false)) (granted _ _ c.is_ruled-2.ensures (ap not c.if-not-is_ruled-2.false)) in
    let shared = shared_second _ _ _ c.reaches.ensures c.if-reaches.false c.reaches-2.ensures in
    sym (none_unruled _ good (sym shared ∙ c.if-reaches-2.false))
