-- Statements of laws.
use Rattle.std.specs.Prelude.{◌≡◌, ℕ, ◌+◌, ◌≤◌, ◌<◌, true, List, [], length, Some, IfSome, Decides}
use Rattle.std.specs.List.{IsDistinct}
use Rattle.rc_redraw.specs.Asking.{Key}
use Rattle.rc_redraw.specs.Counts.{Call, Counts}
use Rattle.rc_redraw.specs.Choosing.{AsksAll, AsksSome}
use Rattle.rc_cache.specs.Same.{same_key}
use Rattle.rc_cache.specs.Replay.{is_among, replay, is_legal}
use Rattle.rc_cache.specs.Hits.{hits, cost, different}
use Rattle.rc_cache.specs.Sums.{looks_of, hits_of, keeps_of}

-- of one about, the keys that are told to be the same are equal, and no others
abbrev pub SameKeysAreEqual : Type 0
SameKeysAreEqual = (j k : Key) → j.about ≡ k.about → Decides (same_key j k) (j ≡ k)

-- no key stands twice in a replay, whatever the calls are
abbrev pub NoKeyTwice : Type 0
NoKeyTwice = (capacity : ℕ) (calls : List Call) → IsDistinct same_key (replay capacity calls)

-- The replay of legal calls has at most as many keys as there is room for. A call that isn't legal may bring a key to the front that
-- wasn't there.
abbrev pub ReplayFits : Type 0
ReplayFits = (capacity : ℕ) (calls : List Call) → is_legal capacity calls ≡ true →
    length (replay capacity calls) ≤ capacity

-- without a keep there is no hit
abbrev pub NoHitUnkept : Type 0
NoHitUnkept = (capacity : ℕ) (calls : List Call) → is_legal capacity calls ≡ true → keeps_of calls ≡ 0 →
    hits_of calls ≡ 0

-- where each look either hits or is followed by a keep, and there is a look, one look at least misses
abbrev pub SomeLookMisses : Type 0
SomeLookMisses =
    (capacity : ℕ) (calls : List Call) → is_legal capacity calls ≡ true →
    keeps_of calls + hits_of calls ≡ looks_of calls →
    0 < looks_of calls → hits_of calls < looks_of calls

-- exactly the keys of these looks stand here
abbrev pub HasKeysOf : List Key → List Key → Type 0
HasKeysOf looks keys = (key : Key) → is_among key keys ≡ is_among key looks

-- Each list that has exactly the keys of these looks, and none twice, is as long as these have different keys; and there is such a list.
abbrev pub DifferentKeys : Type 0
DifferentKeys =
    (looks : List Key) →
    ((keys : List Key) → IsDistinct same_key keys → HasKeysOf looks keys → length keys ≡ different looks)
    × ((keys : List Key) × IsDistinct same_key keys × HasKeysOf looks keys)

-- the looks that miss are at least as many as the different keys
abbrev pub MissesEachOnce : Type 0
MissesEachOnce = (capacity : ℕ) (looks : List Key) → hits looks capacity + different looks ≤ length looks

-- Where one worker alone asks these keys of a book that was asked nothing before, and the calls are a legal journal, the hits and
-- the steps are those of these looks.
abbrev pub OneWorkerHits : Type 0
OneWorkerHits =
    (capacity : ℕ) (looks : List Key) (before after : Counts) (steps steps' : ℕ) → before.calls ≡ Some [] →
    AsksAll looks before after steps steps' → IfSome after.calls (λ calls. is_legal capacity calls ≡ true →
    (after.hits ≡ before.hits + hits looks capacity) × (steps' ≡ steps + cost looks capacity))

-- Where it asks some of these keys, until memory runs out, there are no more steps than those of all these looks.
abbrev pub OneWorkerLacks : Type 0
OneWorkerLacks =
    (capacity : ℕ) (looks : List Key) (before after : Counts) (steps steps' : ℕ) → before.calls ≡ Some [] →
    AsksSome looks before after steps steps' → IfSome after.calls (λ calls. is_legal capacity calls ≡ true →
    (steps ≤ steps') × (steps' ≤ steps + cost looks capacity))
