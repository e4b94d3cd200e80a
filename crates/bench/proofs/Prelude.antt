-- What the proofs of bench share: names of the logic library and of the crates below.
pub use Prim.Native.Nat.{ℕ, ◌-◌, ◌≤◌}
pub use mathlib.Core.List.{List}
pub use mathlib.Core.Path.{ap, refl, subst, sym, ◌∙◌, ◌≡◌}
pub use native.Mathlib.Omega.{arith}
pub use lib.ListN.{length, length-replicate, take}
pub use lib.Seq.{length-take-le}
pub use borrow.Author.Rules.{rules}
pub use Rattle.script.specs.Script.{input_length, output_length, printed}
