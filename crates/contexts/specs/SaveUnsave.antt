-- What save_context and unsave_context, save_context_judged and unsave_context_judged in place, save_context_layout, locate, place_context and read_context answer and leave.
use Rattle.std.specs.Prelude.{Result, Ok, Err, ℕ, ◌+◌, ◌*◌, ◌%◌, ◌^◌, ◌≤◌, List, ◌≡◌, cond, leb, ltb, eqb, length}
use Rattle.std.specs.Borrow.{Bor}
use Rattle.model.specs.Memory.{Window, shape_of, offset, Windows, shapes_of, inside, both}
use Rattle.model.specs.Plan.{Outcome, perform, look}
use Rattle.model.specs.Registers.{admissible}
use Rattle.model.specs.Contexts.{below, save_context, context_at, unsave_context, packed_at, count_below}
use Rattle.model.specs.Step.{refusing}
use Rattle.model.specs.Reader.{window_of, across, part_at, read_context, part_bytes}
use Rattle.model.specs.Numbers.{number_of, reply_of}
use Rattle.model.specs.Parts.{lent}
use Rattle.machine.specs.Octas.{room_in}
use Rattle.stack.specs.GivenBack.{guarded_on, only_if, Gives}
use Rattle.model.specs.declared.Bases.{Bases}
use Rattle.model.specs.declared.State.{State}
use Rattle.model.specs.declared.Reply.{Reply}
use Rattle.model.specs.declared.Reply.TheVariants.{Done, Across, SavedCount}
use Rattle.contexts.specs.declared.layout.SavedContext.{SavedContext}
use Rattle.contexts.specs.declared.layout.ContextError.{ContextError}
use Rattle.contexts.specs.declared.layout.ContextError.TheVariants.{Bad, Lost}
use Rattle.contexts.specs.declared.layout.LayoutError.{LayoutError}
use Rattle.contexts.specs.declared.layout.LayoutError.TheVariants.{Excess, Outside}
use Rattle.contexts.specs.declared.layout.SaveContextLayout.{SaveContextLayout}
use Rattle.contexts.specs.declared.reader.Place.{Place}

unfoldable pub save_of : Windows → State → ℕ → Outcome State Windows
save_of w s x = guarded_on w s (save_context s x)

unfoldable pub unsave_of : Windows → State → ℕ → Outcome State Windows
unsave_of w s p = guarded_on w s (unsave_context s p)

-- the same in place
unfoldable pub save_in : Windows → State → ℕ → Outcome State Windows
save_in w s x = only_if (admissible s) w s (save_context s x)

unfoldable pub unsave_in : Windows → State → ℕ → Outcome State Windows
unsave_in w s p = perform both (refusing (shapes_of w)) s (unsave_context s p) w

-- SAVE $x of s and w answers r and leaves t and v
abbrev pub SaveGives : Windows → State → ℕ → Reply → State → Windows → Type 0
SaveGives w s x r t v = Gives (save_of w s x) s r t v

-- UNSAVE of the context at p answers r and leaves t; it writes nothing
abbrev pub UnsaveGives : Windows → State → ℕ → Reply → State → Type 0
UnsaveGives w s p r t = Gives (unsave_of w s p) s r t w

abbrev pub context_specials : ℕ
context_specials = 12

-- the parts of a context below its packed octabyte at p, for a threshold g and l locals
unfoldable pub layout_at : ℕ → ℕ → ℕ → SaveContextLayout
layout_at p g l = record {
  local_count = l;
  locals_base = below p (packed_at l g) % 2 ^ 64;
}

-- the number of the local count below p: 6 where it is missing, 16 where it is above g, compared at full width
unfoldable pub count_reply : Windows → ℕ → ℕ → ℕ
count_reply w p g = cond (inside (shapes_of w) (below p (count_below g))) (cond (leb (look both w (below p (count_below g))) g) 0 16) 6

-- a context's parts, or why there are none
abbrev pub Layout : Type 0
Layout = Result SaveContextLayout LayoutError

-- 01's number of each case
unfoldable pub layout_number : Layout → ℕ
layout_number (Ok l) = 0
layout_number (Err (Excess count)) = 16
layout_number (Err (Outside reply)) = number_of reply

-- the case of each number, with its values, where the count is l
unfoldable pub layout_answer : ℕ → ℕ → ℕ → ℕ → Layout
layout_answer p g l n = cond (eqb n 0) (Ok (layout_at p g l)) (cond (eqb n 16) (Err (Excess l)) (Err (Outside (reply_of n))))

pub record LayoutIs (w : Windows) (p g : ℕ) (r : Layout) : Type 0 where
  pub answer_is : r ≡ layout_answer p g (look both w (below p (count_below g))) (count_reply w p g)
  pub number_is : layout_number r ≡ count_reply w p g

-- where a context is: its first local's address, rG, rA and local count; all 0 where it is refused
unfoldable pub spot : ℕ → ℕ → ℕ → ℕ → SavedContext
spot o g a l = record { first = o; rg = g; ra = a; count = l }

-- the context plan that UNSAVE and the reader share, with the place as its answer
unfoldable pub located_of : Windows → ℕ → Outcome SavedContext Windows
located_of w p = perform both (refusing (shapes_of w)) (spot 0 0 0 0) (context_at (spot 0 0 0 0) (λ o g a l vs. spot o g a l) p) w

-- a context, or why there is none
abbrev pub Located : Type 0
Located = Result SavedContext ContextError

-- what a context whose parts cannot be told is refused by
abbrev pub FromLayout : LayoutError → ContextError → Type 0
FromLayout (Excess count) e = e ≡ Bad SavedCount
FromLayout (Outside reply) e = e ≡ Lost reply

-- 01's number of each case
unfoldable pub located_number : Located → ℕ
located_number (Ok at) = 0
located_number (Err (Bad reply)) = number_of reply
located_number (Err (Lost reply)) = number_of reply

-- the case of each number, with its value
unfoldable pub located_answer : ℕ → SavedContext → Located
located_answer n at = cond (eqb n 0) (Ok at) (cond (eqb n 6) (Err (Lost (reply_of n))) (Err (Bad (reply_of n))))

pub record LocatedIs (w : Windows) (p : ℕ) (r : Located) : Type 0 where
  pub answer_is : r ≡ located_answer (located_of w p).reply (located_of w p).state
  pub number_is : located_number r ≡ (located_of w p).reply

unfoldable pub place_at : Reply → ℕ → ℕ → ℕ → Place
place_at reply which start size = record { reply = reply; which = which; start = start; size = size }

-- n octabytes from a up as a part of the window v of number k, where that has room for them all
unfoldable pub part_in : ℕ → Window → ℕ → ℕ → Place
part_in k v a n = cond (ltb (room_in (shape_of v) a) n) (place_at Across 0 0 0) (place_at Done k (offset v.base a) (8 * n))

-- as the reader's part, where no window refuses them
unfoldable pub held_part : Windows → ℕ → ℕ → Place
held_part w a n = cond (across (shapes_of w) a n) (place_at Across 0 0 0) (place_at Done (part_at w a n).which (part_at w a n).start (part_at w a n).size)

-- the reader's reply and part; the part lies in the window that it names
pub record PlaceIs (w : Windows) (p : ℕ) (r : Place) : Type 0 where
  pub reply_is : r.reply ≡ reply_of (read_context w p).reply
  pub number_is : number_of r.reply ≡ (read_context w p).reply
  pub which_is : r.which ≡ (read_context w p).state.which
  pub start_is : r.start ≡ (read_context w p).state.start
  pub size_is : r.size ≡ (read_context w p).state.size
  pub lies_inside : r.start + r.size ≤ length (window_of w r.which).bytes

-- the first byte of the window of number k, of a and b as they are lent
abbrev pub first_byte : ℕ → Bor (List ℕ) → Bor (List ℕ) → ℕ × ℕ
first_byte k a b = cond (eqb k 1) b.ref_ptr a.ref_ptr

-- the reader's reply, which window held the context, and the part r that it hands back of that window: its bytes, and where it lies, as far
-- behind the window's first byte as the part's index says
pub record PartIs (at : Bases) (a b : Bor (List ℕ)) (p : ℕ) (r : Bor (List ℕ)) (reply which : ℕ) : Type 0 where
  pub reply_is : reply ≡ (read_context (lent at a.now b.now) p).reply
  pub which_is : which ≡ (read_context (lent at a.now b.now) p).state.which
  pub bytes_are : r.now ≡ part_bytes (lent at a.now b.now) (read_context (lent at a.now b.now) p).state
  pub lies_at : r.ref_ptr ≡ ((first_byte which a b).0, (first_byte which a b).1 + (read_context (lent at a.now b.now) p).state.start)
