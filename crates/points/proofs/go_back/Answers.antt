-- `go_back` meets its contract: each refusal by its test, and else the room is restored.
use Rattle.model.proofs.Prelude.{not}
use Rattle.model.proofs.Prelude.{ap}
use Rattle.model.proofs.Prelude.{◌*◌, ◌+◌, ◌-◌, ◌∙◌, arith, full, PointFits, point_in, number_of, denied, granted, told_done, told_refused}
use Rattle.points.specs.Store.{room_length}
use Rattle.image.proofs.Coded.{at_most}
use Rattle.points.proofs.Answers.{lent_fits, two_unruled, two_short, two_name, two_open, back_one, back_two, room_none, room_unlike, room_masked, room_open, room_lent, back_not, back_done}
use Rattle.std.proofs.Common.{rules}
use Rattle.points.proofs.go_back.Goals as goal

pub returns-then-not-is_image : goal.returns-then-not-is_image
unfolding number_of
returns-then-not-is_image c = back_not _ _ _ 1 (λ z. omega arith) (back_one _ _ _ (denied _ _ c.is_image.ensures (ap not c.if-not-is_image.true)))

pub returns-then-ne : goal.returns-then-ne
returns-then-ne c =
    let is = granted _ _ c.is_image.ensures (ap not c.if-not-is_image.false) in
    let refused = told_refused _ _ c.ne.ensures c.if-ne.true in
    back_not _ _ _ _ refused (back_two _ _ _ is _ (two_unruled _ _ _ _ _ c.windows_refusal-refusal.ensures refused))

pub returns-then-store-lt-STORE_LEN : goal.returns-then-store-lt-STORE_LEN
unfolding number_of
returns-then-store-lt-STORE_LEN c =
    let is = granted _ _ c.is_image.ensures (ap not c.if-not-is_image.false) in
    back_not _ _ _ 26 (λ z. omega arith)
    (back_two _ _ _ is 26 (two_short _ _ _ _ _ c.windows_refusal-refusal.ensures (told_done _ _ c.ne.ensures c.if-ne.false) (omega arith)))

pub returns-then-name-ge-POINTS : goal.returns-then-name-ge-POINTS
unfolding number_of
returns-then-name-ge-POINTS c =
    let is = granted _ _ c.is_image.ensures (ap not c.if-not-is_image.false) in
    back_not _ _ _ 27 (λ z. omega arith)
    (back_two _ _ _ is 27 (two_name _ _ _ _ _ c.windows_refusal-refusal.ensures (told_done _ _ c.ne.ensures c.if-ne.false) (omega arith) (omega arith)))

pub returns-then-not-is_taken : goal.returns-then-not-is_taken
unfolding number_of
returns-then-not-is_taken c =
    let is = granted _ _ c.is_image.ensures (ap not c.if-not-is_image.false) in
    let a = c.args in
    let room = room_lent a.store.now a.name (a.name * room_length + room_length - a.name * room_length) (omega arith) (omega arith) (omega arith) in
    back_not _ _ _ 27 (λ z. omega arith)
    (back_two _ _ _ is 27
    (two_open _ _ _ _ _ c.windows_refusal-refusal.ensures (told_done _ _ c.ne.ensures c.if-ne.false) (omega arith) (omega arith)
    ∙ room_none _ _ room _ (denied _ _ c.is_taken.ensures (ap not c.if-not-is_taken.true))))

pub returns-then-not-suits : goal.returns-then-not-suits
unfolding number_of
returns-then-not-suits c =
    let is = granted _ _ c.is_image.ensures (ap not c.if-not-is_image.false) in
    let a = c.args in
    let room = room_lent a.store.now a.name (a.name * room_length + room_length - a.name * room_length) (omega arith) (omega arith) (omega arith) in
    back_not _ _ _ 28 (λ z. omega arith)
    (back_two _ _ _ is 28
    (two_open _ _ _ _ _ c.windows_refusal-refusal.ensures (told_done _ _ c.ne.ensures c.if-ne.false) (omega arith) (omega arith)
    ∙ room_unlike _ _ room _ (granted _ _ c.is_taken.ensures (ap not c.if-not-is_taken.false)) (denied _ _ c.suits.ensures (ap not c.if-not-suits.true))))

pub returns-then-not-mask_fits : goal.returns-then-not-mask_fits
unfolding number_of
returns-then-not-mask_fits c =
    let is = granted _ _ c.is_image.ensures (ap not c.if-not-is_image.false) in
    let a = c.args in
    let room = room_lent a.store.now a.name (a.name * room_length + room_length - a.name * room_length) (omega arith) (omega arith) (omega arith) in
    back_not _ _ _ 1 (λ z. omega arith)
    (back_two _ _ _ is 1
    (two_open _ _ _ _ _ c.windows_refusal-refusal.ensures (told_done _ _ c.ne.ensures c.if-ne.false) (omega arith) (omega arith)
    ∙ room_masked _ _ room _ (granted _ _ c.is_taken.ensures (ap not c.if-not-is_taken.false)) (granted _ _ c.suits.ensures (ap not c.if-not-suits.false))
    (denied _ _ c.mask_fits.ensures (ap not c.if-not-mask_fits.true))))

pub restore-requires : goal.restore-requires
restore-requires c =
    let is = granted _ _ c.is_image.ensures (ap not c.if-not-is_image.false) in
    let a = c.args in
    let fits : PointFits (full (point_in a.image.now a.at.a a.at.b a.a.now a.b.now))
    = lent_fits _ _ c.windows_refusal-refusal.ensures (told_done _ _ c.ne.ensures c.if-ne.false) in
    (search rules, at_most a.image.now is, fits.long_a, fits.long_b)

pub returns : goal.returns
unfolding number_of
returns c =
    let is = granted _ _ c.is_image.ensures (ap not c.if-not-is_image.false) in
    let a = c.args in
    let room = room_lent a.store.now a.name (a.name * room_length + room_length - a.name * room_length) (omega arith) (omega arith) (omega arith) in
    let fits : PointFits (full (point_in a.image.now a.at.a a.at.b a.a.now a.b.now))
    = lent_fits _ _ c.windows_refusal-refusal.ensures (told_done _ _ c.ne.ensures c.if-ne.false) in
    let suits = granted _ _ c.suits.ensures (ap not c.if-not-suits.false) in
    back_done a.store.now a.name (point_in a.image.now a.at.a a.at.b a.a.now a.b.now)
    (back_two _ _ _ is 0
    (two_open _ _ _ _ _ c.windows_refusal-refusal.ensures (told_done _ _ c.ne.ensures c.if-ne.false) (omega arith) (omega arith)
    ∙ room_open _ _ room _ (granted _ _ c.is_taken.ensures (ap not c.if-not-is_taken.false)) suits (granted _ _ c.mask_fits.ensures (ap not c.if-not-mask_fits.false))))
    (at_most a.image.now is) _ room suits fits.whole_a fits.whole_b _ _ _
    c.restore.ensures.0 c.restore.ensures.1 c.restore.ensures.2
