-- Notes of what items bind, match by match, as one list; and how many faces a legend has.
use Rattle.std.proofs.Common.{◌≡◌, ℕ, ◌+◌, List, [], ◌∷◌, ◌++◌, map, flat_map, filter, length, Bool, true, false, if◌then◌else◌, refl, sym, ap, ◌∙◌}
use Rattle.std.specs.Prelude.{Vec}
use Rattle.std.specs.Global.{Global}
use Rattle.std.proofs.lemmas.List.{length-append, length-map}
use Rattle.std.proofs.lemmas.List.Elements.{filter-append}
use Rattle.std.proofs.lemmas.Bool.{cond-true, cond-false}
use Rattle.arrayvec.specs.ArrayVec.{ArrayVec}
use Rattle.rc_base.specs.Numbers.{below}
use Rattle.rc_base.specs.Transcript.{Record}
use Rattle.rc_deck.proofs.RangeLemmas.{below_push}
use Rattle.rc_play_spec.specs.About.{About}
use Rattle.rc_play_spec.specs.Effects.{Dealing}
use Rattle.rc_play_spec.specs.Plan.{Plan}
use Rattle.rc_rules.specs.declared.bound.Bound.{Bound}
use Rattle.rc_rules.specs.declared.record.MatchRecord.{MatchRecord}
use Rattle.rc_rules.specs.Bounds.{bounds_seen, match_bounds}
use Rattle.rc_rules.specs.Record.{pick_seen, record_seen}
use Rattle.rc_play_spec.specs.Along.{marks_from, marks_over}
use Rattle.rc_play_spec.specs.Judged.{play_after}
use Rattle.rc_play_spec.proofs.LegalLemmas.{one_each}
use Rattle.rc_text.specs.BoundSeen.{all_bounds, AreFor}
use Rattle.rc_judge.specs.Seen.{lists_seen, lists_over}

abbrev Lists : Type 0
Lists = List (Vec (ArrayVec Bound) Global)

-- ---- how many choices the matches have

pub counts_seen : (matches : List MatchRecord) → map (λ (r : Record). length r.picks) (map record_seen matches) ≡ map (λ (r : MatchRecord). length r.picks.items) matches
counts_seen [] = refl
counts_seen (r ∷ matches) = (λ i. length-map r.picks.items pick_seen i ∷ counts_seen matches i)

list_counts : (lists : Lists) → map (λ b. length b.items) lists ≡ map (λ xs. length xs) (lists_seen lists)
list_counts [] = refl
list_counts (b ∷ lists) = (λ i. sym (length-map b.items bounds_seen) i ∷ list_counts lists i)

seen_joined : (lists : Lists) → all_bounds lists ≡ flat_map (λ xs. xs) (lists_seen lists)
seen_joined [] = refl
seen_joined (b ∷ lists) = ap (λ xs. match_bounds b ++ xs) (seen_joined lists)

module _ (about : About) (dealing : ℕ → Dealing ℕ) (plan : Plan) where
  over_counts : (m : ℕ) (matches : List Record) → map (λ xs. length xs) (lists_over about dealing plan m matches) ≡ map (λ (r : Record). length r.picks) matches
  over_counts m [] = refl
  over_counts m (r ∷ matches) = (λ i. one_each about dealing plan m (play_after about dealing plan m []) r.picks i ∷ over_counts (m + 1) matches i)

  over_joined : (m : ℕ) (matches : List Record) → marks_over about dealing plan m matches ≡ flat_map (λ xs. xs) (lists_over about dealing plan m matches)
  over_joined m [] = refl
  over_joined m (r ∷ matches) = ap (λ xs. marks_from about dealing plan m (play_after about dealing plan m []) r.picks ++ xs) (over_joined (m + 1) matches)

  -- what was noted is what the text's choices bind, and it fits them
  seen_over : (lists old : Lists) (m : ℕ) (matches : List Record) → old ≡ [] → lists_seen lists ≡ lists_seen old ++ lists_over about dealing plan m matches →
      lists_seen lists ≡ lists_over about dealing plan m matches
  seen_over lists old m matches none e = e ∙ ap (λ old. lists_seen old ++ lists_over about dealing plan m matches) none

  pub noted_all : (lists old : Lists) (m : ℕ) (matches : List Record) → old ≡ [] → lists_seen lists ≡ lists_seen old ++ lists_over about dealing plan m matches →
      all_bounds lists ≡ marks_over about dealing plan m matches
  noted_all lists old m matches none e =
      seen_joined lists ∙ ap (flat_map (λ xs. xs)) (seen_over lists old m matches none e) ∙ sym (over_joined m matches)

  pub noted_fits : (lists old : Lists) (m : ℕ) (matches : List MatchRecord) → old ≡ [] →
      lists_seen lists ≡ lists_seen old ++ lists_over about dealing plan m (map record_seen matches) → AreFor matches lists
  noted_fits lists old m matches none e =
      list_counts lists ∙ ap (map (λ xs. length xs)) (seen_over lists old m (map record_seen matches) none e) ∙ over_counts m (map record_seen matches) ∙ counts_seen matches

-- ---- counts of numbers that pass a test

kept_of : (keeps : ℕ → Bool) (n : ℕ) (b : Bool) → keeps n ≡ b → length (filter keeps (n ∷ [])) ≡ (if b then 1 else 0)
kept_of keeps n true e = ap length (cond-true (keeps n) (n ∷ []) [] e)
kept_of keeps n false e = ap length (cond-false (keeps n) (n ∷ []) [] e)

pub count_more : (keeps : ℕ → Bool) (n : ℕ) (b : Bool) → keeps n ≡ b →
    length (filter keeps (below (n + 1))) ≡ length (filter keeps (below n)) + (if b then 1 else 0)
count_more keeps n b e =
    ap (λ xs. length (filter keeps xs)) (below_push n) ∙ ap length (filter-append keeps (below n) (n ∷ []))
    ∙ length-append (filter keeps (below n)) (filter keeps (n ∷ [])) ∙ ap (λ k. length (filter keeps (below n)) + k) (kept_of keeps n b e)
