-- Lists in which no key stands twice: replays, and the different keys of a list.
use Rattle.std.proofs.Common.{◌≡◌, ℕ, zero, suc, ◌+◌, ◌≤◌, Bool, true, false, not, ◌||◌, cond, List, [], ◌∷◌, length, take, refl, sym, ap, ap₂, ◌∙◌, arith}
use Rattle.std.specs.Cmp.{IsEquivalence, decided}
use Rattle.std.specs.List.{AllByRecursion, IsDistinct}
use Rattle.std.proofs.lemmas.Bool.{and_parts, false≢true, or_parts, or_right}
use Rattle.std.proofs.lemmas.Map.Made.{length-from_keys}
use Rattle.std.specs.Set.{is_member, distinct_count}
use Rattle.rc_redraw.specs.Asking.{Key}
use Rattle.rc_redraw.specs.Counts.{Call, looked, kept, one_if}
use Rattle.rc_cache.specs.Same.{same_ask, same_key}
use Rattle.rc_cache.specs.SameLaws.{asks_decide}
use Rattle.rc_cache.specs.Replay.{is_among, without, after, is_met, replay_from, legal_from, replay, is_legal}
use Rattle.rc_cache.specs.Hits.{new_from, different}
use Rattle.rc_cache.specs.Laws.{HasKeysOf}
use Rattle.rc_cache.proofs.CacheLemmas.{length-without}
use Rattle.rc_cache.proofs.ReplayLemmas.{is_among-without, is_among-take}

-- no key is the same as one behind it
abbrev Apart : List Key → Type 0
Apart [] = Unit {0}
Apart (k ∷ ks) = (is_among k ks ≡ false) × Apart ks

apart_each : (k : Key) (ks : List Key) → is_among k ks ≡ false → AllByRecursion (λ j. same_key k j ≡ false) ks
apart_each k [] n = tt
apart_each k (x ∷ ks) n = let p = or_parts (same_key k x) (is_among k ks) n in (p.0, apart_each k ks p.1)

distinct : (ks : List Key) → Apart ks → IsDistinct same_key ks
unfolding IsDistinct
distinct [] a = tt
distinct (k ∷ ks) a = (apart_each k ks a.0, distinct ks a.1)

not_so : (b c : Bool) → (b ≡ true → c ≡ true) → c ≡ false → b ≡ false
not_so true c f n = absurd (false≢true (sym n ∙ f refl))
not_so false c f n = refl

same_again : (k : Key) → same_key k k ≡ true
same_again k = (asks_decide k.ask k.ask).1 refl

among_alike : (j k : Key) → same_key j k ≡ true → (ks : List Key) → is_among j ks ≡ is_among k ks
among_alike j k same [] = refl
among_alike j k same (x ∷ ks) =
    ap₂ ◌||◌ (ap (λ a. same_ask a x.ask) ((asks_decide j.ask k.ask).0 same)) (among_alike j k same ks)

-- a key is taken out, put in front, or cut off
gone : (k : Key) (ks : List Key) → Apart ks → is_among k (without k ks) ≡ false
gone k [] a = refl
gone k (x ∷ ks) a = by (same_key k x) refl (gone k ks a.1)
  where
    by : (b : Bool) → same_key k x ≡ b → is_among k (without k ks) ≡ false → is_among k (cond b ks (x ∷ without k ks)) ≡ false
    by true t r = among_alike k x t ks ∙ a.0
    by false t r = ap₂ ◌||◌ t r

apart_without : (k : Key) (ks : List Key) → Apart ks → Apart (without k ks)
apart_without k [] a = tt
apart_without k (x ∷ ks) a = by (same_key k x) (apart_without k ks a.1)
  where
    by : (b : Bool) → Apart (without k ks) → Apart (cond b ks (x ∷ without k ks))
    by true r = a.1
    by false r = (not_so (is_among x (without k ks)) (is_among x ks) (is_among-without x k ks) a.0, r)

apart_take : (n : ℕ) (ks : List Key) → Apart ks → Apart (take n ks)
apart_take zero ks a = tt
apart_take (suc n) [] a = tt
apart_take (suc n) (x ∷ ks) a = (not_so (is_among x (take n ks)) (is_among x ks) (is_among-take x n ks) a.0, apart_take n ks a.1)

apart_front : (k : Key) (ks : List Key) → Apart ks → Apart (k ∷ without k ks)
apart_front k ks a = (gone k ks a, apart_without k ks a)

apart_after : (capacity : ℕ) (keys : List Key) (call : Call) → Apart keys → Apart (after capacity keys call)
apart_after capacity keys (looked key true) a = apart_front key keys a
apart_after capacity keys (looked key false) a = a
apart_after capacity keys (kept key) a = apart_take capacity (key ∷ without key keys) (apart_front key keys a)

apart_replay : (capacity : ℕ) (keys : List Key) (calls : List Call) → Apart keys → Apart (replay_from capacity keys calls)
apart_replay capacity keys [] a = a
apart_replay capacity keys (call ∷ calls) a =
    apart_replay capacity (after capacity keys call) calls (apart_after capacity keys call a)

pub none_twice : (capacity : ℕ) (calls : List Call) → IsDistinct same_key (replay capacity calls)
none_twice capacity calls = distinct (replay capacity calls) (apart_replay capacity [] calls tt)

pub take_short : (n : ℕ) (ks : List Key) → length (take n ks) ≤ n
take_short zero ks = omega arith
take_short (suc n) [] = omega arith
take_short (suc n) (x ∷ ks) = let rest = take_short n ks in omega (arith, rest)

fits_after : (capacity : ℕ) (keys : List Key) (call : Call) → is_met keys call ≡ true → length keys ≤ capacity →
    length (after capacity keys call) ≤ capacity
fits_after capacity keys (looked key true) met fits =
    let one = length-without key keys met in omega (arith, one, fits)
fits_after capacity keys (looked key false) met fits = fits
fits_after capacity keys (kept key) met fits = take_short capacity (key ∷ without key keys)

fits_replay : (capacity : ℕ) (keys : List Key) (calls : List Call) → legal_from capacity keys calls ≡ true → length keys ≤ capacity →
    length (replay_from capacity keys calls) ≤ capacity
fits_replay capacity keys [] legal fits = fits
fits_replay capacity keys (call ∷ calls) legal fits =
    let l = and_parts (is_met keys call) (legal_from capacity (after capacity keys call) calls) legal in
    fits_replay capacity (after capacity keys call) calls l.1 (fits_after capacity keys call l.0 fits)

pub replay_fits : (capacity : ℕ) (calls : List Call) → is_legal capacity calls ≡ true → length (replay capacity calls) ≤ capacity
replay_fits capacity calls legal = fits_replay capacity [] calls legal (omega arith)

-- each of these keys that isn't among those that were seen, once
abbrev kinds : List Key → List Key → List Key
kinds seen [] = []
kinds seen (k ∷ ks) = cond (is_among k seen) (kinds (k ∷ seen) ks) (k ∷ kinds (k ∷ seen) ks)

kinds_many : (seen ks : List Key) → length (kinds seen ks) ≡ new_from seen ks
kinds_many seen [] = refl
kinds_many seen (k ∷ ks) = by (is_among k seen) (kinds_many (k ∷ seen) ks)
  where
    by : (b : Bool) → length (kinds (k ∷ seen) ks) ≡ new_from (k ∷ seen) ks →
        length (cond b (kinds (k ∷ seen) ks) (k ∷ kinds (k ∷ seen) ks)) ≡ one_if (not b) + new_from (k ∷ seen) ks
    by true r = omega (arith, r)
    by false r = omega (arith, r)

kinds_new : (seen ks : List Key) (j : Key) → is_among j seen ≡ true → is_among j (kinds seen ks) ≡ false
kinds_new seen [] j h = refl
kinds_new seen (k ∷ ks) j h =
    by (is_among k seen) refl (kinds_new (k ∷ seen) ks j (ap (λ b. same_key j k || b) h ∙ or_right (same_key j k) true refl))
  where
    by : (b : Bool) → is_among k seen ≡ b → is_among j (kinds (k ∷ seen) ks) ≡ false →
        is_among j (cond b (kinds (k ∷ seen) ks) (k ∷ kinds (k ∷ seen) ks)) ≡ false
    by true t r = r
    by false t r = ap₂ ◌||◌ (not_so (same_key j k) (is_among k seen) (λ same. sym (among_alike j k same seen) ∙ h) t) r

kinds_apart : (seen ks : List Key) → Apart (kinds seen ks)
kinds_apart seen [] = tt
kinds_apart seen (k ∷ ks) = by (is_among k seen) (kinds_apart (k ∷ seen) ks)
  where
    by : (b : Bool) → Apart (kinds (k ∷ seen) ks) → Apart (cond b (kinds (k ∷ seen) ks) (k ∷ kinds (k ∷ seen) ks))
    by true r = r
    by false r = (kinds_new (k ∷ seen) ks k (ap (λ b. b || is_among k seen) (same_again k)), r)

seen_again : (a s x y : Bool) → (a ≡ true → s ≡ true) → ((a || s) || x) ≡ ((a || s) || y) → (s || x) ≡ (s || (a || y))
seen_again a true x y f r = refl
seen_again true false x y f r = absurd (false≢true (f refl))
seen_again false false x y f r = r

seen_first : (a s x y : Bool) → ((a || s) || x) ≡ ((a || s) || y) → (s || (a || x)) ≡ (s || (a || y))
seen_first a true x y r = refl
seen_first true false x y r = refl
seen_first false false x y r = r

kinds_all : (seen ks : List Key) (j : Key) → (is_among j seen || is_among j (kinds seen ks)) ≡ (is_among j seen || is_among j ks)
kinds_all seen [] j = refl
kinds_all seen (k ∷ ks) j = by (is_among k seen) refl (kinds_all (k ∷ seen) ks j)
  where
    by : (b : Bool) → is_among k seen ≡ b →
        ((same_key j k || is_among j seen) || is_among j (kinds (k ∷ seen) ks)) ≡ ((same_key j k || is_among j seen) || is_among j ks) →
        (is_among j seen || is_among j (cond b (kinds (k ∷ seen) ks) (k ∷ kinds (k ∷ seen) ks))) ≡ (is_among j seen || (same_key j k || is_among j ks))
    by true t r =
        seen_again (same_key j k) (is_among j seen) (is_among j (kinds (k ∷ seen) ks)) (is_among j ks) (λ same. among_alike j k same seen ∙ t) r
    by false t r = seen_first (same_key j k) (is_among j seen) (is_among j (kinds (k ∷ seen) ks)) (is_among j ks) r

same_keys : IsEquivalence same_key
same_keys =
    let asks = decided same_ask asks_decide in
    record {
      refl = λ x. asks.refl x.ask;
      symm = λ x y. asks.symm x.ask y.ask;
      congr = λ x y z. asks.congr x.ask y.ask z.ask;
    }

member_is : (key : Key) (keys : List Key) → is_member same_key keys key ≡ is_among key keys
member_is key [] = refl
member_is key (k ∷ keys) = ap (λ b. same_key key k || b) (member_is key keys)

counted_by : (looks keys : List Key) → IsDistinct same_key keys → HasKeysOf looks keys → length keys ≡ length (kinds [] looks)
counted_by looks keys apart same =
    let counted : (ks : List Key) → IsDistinct same_key ks → HasKeysOf looks ks → length ks ≡ distinct_count same_key looks =
    λ ks a s. length-from_keys same_keys ks looks a (λ key. member_is key ks ∙ s key ∙ sym (member_is key looks)) in
    counted keys apart same ∙ sym (counted (kinds [] looks) (distinct (kinds [] looks) (kinds_apart [] looks)) (kinds_all [] looks))

pub each_once : (looks : List Key) →
    ((keys : List Key) → IsDistinct same_key keys → HasKeysOf looks keys → length keys ≡ different looks)
    × ((keys : List Key) × IsDistinct same_key keys × HasKeysOf looks keys)
each_once looks = (
  λ keys apart same. counted_by looks keys apart same ∙ kinds_many [] looks,
  (kinds [] looks, distinct (kinds [] looks) (kinds_apart [] looks), kinds_all [] looks),
)
