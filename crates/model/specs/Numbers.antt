-- 01, 'Replies': "For each answer that is an enum, a definition gives this paper's number and values for every case of that enum."
use Rattle.std.specs.Prelude.{◌≡◌, ℕ, ◌≤◌, ◌⊎◌, List, [], ◌∷◌, Result, MatchResult, Option, None, Some, slice_index_or, length}
use Rattle.model.specs.declared.replies.NoReply.{NoReply}
use Rattle.model.specs.declared.Window.{Window}
use Rattle.model.specs.declared.Window.TheVariants.{A, B}
use Rattle.model.specs.declared.Reply.{Reply}
use Rattle.model.specs.declared.Reply.TheVariants.{Done, NotAdmissible, WindowRule, NoArm, NamedTrap, NoSpecial, Missing, PutUnknown, PutPrivileged, PutIllegal, PutThreshold, PutStatus, Misplaced, SaveLocal, SavedThreshold, SavedStatus, SavedCount, SyncPrivileged, SyncIllegal, NotLoaded, Trapped, OutOfReach, Shared, Across, NotFetched, GrantTooLarge, StoreTooShort, NoPoint, OtherPoint, NoFrame, TooManyPairs, Hidden, Foreign, TasksRule}

-- what the numbers leave, by kind: judged before an octabyte is asked for, nothing changes; a needed octabyte that is not there, nothing
-- changes; "halt code 1 only". 19 and 20 have kinds of their own; 21 and 23 are no step's, and there is no state that they could change;
-- 25 is a run's, which it refuses whole; 26 to 28 are those of points to return to and 30 that of a set of pairs, and leave every byte;
-- 32 is that of a task's instruction, which it leaves undone, and 33 that of a call of several tasks, which it refuses whole
abbrev pub Early : ℕ → Type 0
Early n = ((1 ≤ n) × (n ≤ 5)) ⊎ (n ≡ 22)

abbrev pub Lost : ℕ → Type 0
Lost n = n ≡ 6

-- of a fetched instruction: 24 too, the tetra at PC is not there
abbrev pub Missed : ℕ → Type 0
Missed n = Lost n ⊎ (n ≡ 24)

abbrev pub Halting : ℕ → Type 0
Halting n = ((7 ≤ n) × (n ≤ 18)) ⊎ ((n ≡ 29) ⊎ (n ≡ 31))

unfoldable pub number_of : Reply → ℕ
number_of Done = 0
number_of NotAdmissible = 1
number_of WindowRule = 2
number_of NoArm = 3
number_of NamedTrap = 4
number_of NoSpecial = 5
number_of Missing = 6
number_of PutUnknown = 7
number_of PutPrivileged = 8
number_of PutIllegal = 9
number_of PutThreshold = 10
number_of PutStatus = 11
number_of Misplaced = 12
number_of SaveLocal = 13
number_of SavedThreshold = 14
number_of SavedStatus = 15
number_of SavedCount = 16
number_of SyncPrivileged = 17
number_of SyncIllegal = 18
number_of NotLoaded = 19
number_of Trapped = 20
number_of OutOfReach = 21
number_of Shared = 22
number_of Across = 23
number_of NotFetched = 24
number_of GrantTooLarge = 25
number_of StoreTooShort = 26
number_of NoPoint = 27
number_of OtherPoint = 28
number_of NoFrame = 29
number_of TooManyPairs = 30
number_of Hidden = 31
number_of Foreign = 32
number_of TasksRule = 33

-- all of them, in the order of their numbers
abbrev pub in_order : List Reply
in_order = Done ∷ NotAdmissible ∷ WindowRule ∷ NoArm ∷ NamedTrap ∷ NoSpecial ∷ Missing
    ∷ PutUnknown ∷ PutPrivileged ∷ PutIllegal ∷ PutThreshold ∷ PutStatus ∷ Misplaced
    ∷ SaveLocal ∷ SavedThreshold ∷ SavedStatus ∷ SavedCount ∷ SyncPrivileged ∷ SyncIllegal ∷ NotLoaded ∷ Trapped
    ∷ OutOfReach ∷ Shared ∷ Across ∷ NotFetched ∷ GrantTooLarge ∷ StoreTooShort ∷ NoPoint ∷ OtherPoint ∷ NoFrame
    ∷ TooManyPairs ∷ Hidden ∷ Foreign ∷ TasksRule ∷ []

unfoldable pub reply_of : ℕ → Reply
reply_of n = slice_index_or in_order n Done

-- what the conversions of the code give: the number of a reply, and the reply of a number, or of one behind them all none
abbrev pub NumberIs : Reply → ℕ → Type 0
NumberIs r n = n ≡ number_of r

abbrev pub ReplyIs : ℕ → Result Reply NoReply → Type 0
ReplyIs n r = MatchResult r (λ reply. number_of reply ≡ n) (λ e. (e.0 ≡ n) × (length in_order ≤ n))

-- the two are inverse on 0 to 33
pub record RepliesNumbered : Type 0 where
  pub reply_number : (r : Reply) → reply_of (number_of r) ≡ r
  pub number_reply : (n : ℕ) → n ≤ 33 → number_of (reply_of n) ≡ n

-- which window holds an octabyte, as `holder` of Memory numbers it
abbrev pub number_of_holder : Option Window → ℕ
number_of_holder (Some A) = 0
number_of_holder (Some B) = 1
number_of_holder None = 2
