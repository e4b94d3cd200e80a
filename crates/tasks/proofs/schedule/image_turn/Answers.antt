-- `image_turn` meets its contract: the image's state takes the run, and goes back into the image. What was lent of it is what comes back.
use Rattle.model.proofs.Prelude.{sym, ap, ◌∙◌, made}
use Rattle.tasks.proofs.Prelude.{of_image, stored_in}
use Rattle.tasks.proofs.DeskTurns.{turned}
use Rattle.tasks.proofs.schedule.image_turn.Goals as goal

pub returns-clause-turned : goal.returns-clause-turned
returns-clause-turned c =
    let l = c.args.image.now in
    let t = c.run-ran.new.state in
    let same = c.run-ran.ensures.same_state in
    let general = c.general-3-1.given.1 (sym same.0) in
    let special = c.special-3-1.given.1 (sym same.1) in
    turned l _ _ _ _ (of_image l c.requires _ _ _ c.load_state-rest.ensures) _ _ _ _ c.run-ran.ensures.ran _
    (c.store_state.ensures ∙ ap (stored_in l) (λ i. made (general i) (special i) t.pc.now t.halt.now (sym same.4 i) (sym same.5 i)))
