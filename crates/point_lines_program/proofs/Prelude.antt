-- What the proofs of point_lines_program share: names of the logic library.
pub use Prim.Native.Nat.{suc, zero, ℕ, ◌+◌, ◌-◌, ◌<◌, ◌≤◌}
pub use mathlib.Core.Path.{ap, refl, subst, sym, ◌∙◌, ◌≡◌}
pub use native.Mathlib.Omega.{arith}
pub use lib.ListN.{drop, length, length-drop, length-replicate, take}
pub use lib.Seq.{drop-drop, length-take-le, take-nil}
pub use borrow.Author.Rules.{rules}
