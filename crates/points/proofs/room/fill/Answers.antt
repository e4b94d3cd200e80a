-- `fill` meets its contract: place after place.
use Rattle.model.proofs.Prelude.{ℕ, ◌/◌, List, [], ◌∷◌, ap, ◌∙◌, ◌≡◌, arith, length, old_image_length, written}
use Rattle.machine.specs.Octabytes.{flat}
use Rattle.machine.proofs.OctabyteRuns.{stored_fits}
use Rattle.points.specs.Store.{numbers_at, a_at, b_at, room_length, numbers_of, filled}
use Rattle.points.proofs.Rooms.{mask_first}
use Rattle.points.proofs.room.fill.Goals as goal

pub returns : goal.returns
unfolding filled numbers_of
returns c =
    let a = c.args in
    let long : length a.room.now ≡ room_length = c.requires.0 in
    c.copy_in-3.ensures
    ∙ ap (λ (r : List ℕ). written r b_at a.b.now) (c.copy_in-2.ensures
    ∙ ap (λ (r : List ℕ). written r a_at a.a.now) (c.store_octas-2.ensures
    ∙ stored_fits _ numbers_at (a.at.a ∷ a.at.b ∷ length a.a.now / 8 ∷ length a.b.now / 8 ∷ 1 ∷ []) (omega arith)
    ∙ ap (λ (r : List ℕ). written r numbers_at (flat (a.at.a ∷ a.at.b ∷ length a.a.now / 8 ∷ length a.b.now / 8 ∷ 1 ∷ []))) (c.copy_in.ensures
    ∙ ap (λ (r : List ℕ). written r 0 a.image.now) (c.store_octas.ensures ∙ stored_fits a.room.now old_image_length (0 ∷ []) (omega arith))
    ∙ mask_first a.room.now a.image.now c.requires.1 c.requires.2 (omega arith))))
