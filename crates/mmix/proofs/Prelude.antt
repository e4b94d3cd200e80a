-- What the proofs of mmix share: names of the logic library and of the crates below. What the Prelude of model has is taken from there.
pub use Rattle.model.specs.declared.State.{State}
pub use Rattle.image.specs.Image.{Decoded, Encoded, image_as, is_image, state_of, stored_in}
pub use Rattle.mmix.specs.declared.Answer.{Answer}
pub use Rattle.image.proofs.Coded.{if_image, if_other, of_image}
pub use Rattle.image.proofs.RoundTrips.{keeps_length, round_trips}
