-- Laws of a call's judging, of its desk as code has it, and the way from images' bytes to states.
pub mod Prelude
pub mod Judged
pub mod ImageParts
pub mod DeskTurns
pub mod Rounds
pub mod Played
pub mod Alone
pub mod Bridge
pub mod Ends
pub mod Lent
