-- Texts are written part by part.
use Rattle.std.proofs.Common.{◌≡◌, ℕ, zero, suc, ◌+◌, ◌<◌, ◌≤◌, List, [], ◌∷◌, ◌++◌, map, flat_map, drop, get_or, slice_get, length, Some, None, codes, refl, sym, ap, ◌∙◌, append_assoc, append-nil, arith}
use Rattle.std.specs.Prelude.{Vec, option_map}
use Rattle.std.specs.Global.{Global}
use Rattle.arrayvec.specs.ArrayVec.{ArrayVec}
use Rattle.std.proofs.lemmas.List.{length-map}
use Rattle.rc_base.specs.Transcript.{Pick as PurePick, Record, match_line, shuffles_line, end_line, score_line, standing_line}
use Rattle.rc_rules.specs.declared.record.Pick.{Pick}
use Rattle.rc_rules.specs.declared.record.MatchRecord.{MatchRecord}
use Rattle.rc_rules.specs.Record.{pick_seen, record_seen, standing_seen}
use Rattle.rc_play_spec.specs.ItemBounds.{Bound as PureBound}
use Rattle.rc_play_spec.specs.Bounds.{mark_text}
use Rattle.rc_play_spec.specs.Lines.{chosen, line_text}
use Rattle.rc_play_spec.specs.HouseText.{first_marks, later_marks, ended_text}
use Rattle.rc_play_spec.specs.TextParts.{picks_text, left_for, record_told, matches_told}
use Rattle.rc_play_spec.specs.HouseText.{naming, text_in}
use Rattle.rc_play_spec.specs.Reading.{lines_in}
use Rattle.rc_play_spec.proofs.LineCuts.{with_end_byte, joined}
use Rattle.rc_play_spec.proofs.SameTexts.{none_left, bare_matches, text_apart}
use Rattle.rc_rules.specs.Bounds.{bounds_seen}
use Rattle.rc_rules.specs.Bounds.{match_bounds}
use Rattle.rc_text.specs.BoundSeen.{all_bounds, AreFor, told_at}
use Rattle.rc_text.specs.PickText.{pick_text}
use Rattle.rc_text.specs.House.{text_of, named_seen, Fits, records_told, parts_of}
use Rattle.rc_text.specs.declared.house.HouseText.{HouseText}
use Rattle.rc_text.specs.declared.house.NamedText.{NamedText}
use Rattle.rc_rules.specs.declared.bound.Bound.{Bound}

abbrev Lists : Type 0
Lists = List (Vec (ArrayVec Bound) Global)

-- ---- a choice

pub pick_line : (p : PurePick) → pick_text p ≡ line_text (chosen p)
pick_line p = simp append_assoc refl

pub bare_choice : (p : PurePick) (out : List ℕ) → (out ++ pick_text p) ++ 10 ∷ [] ≡ out ++ ended_text (chosen p, None)
bare_choice p out = append_assoc out (pick_text p) (10 ∷ []) ∙ ap (λ t. out ++ (t ++ 10 ∷ [])) (pick_line p)

pub marked_choice : (p : PurePick) (marks : List PureBound) (out : List ℕ) →
    ((out ++ pick_text p) ++ flat_map mark_text marks) ++ 10 ∷ [] ≡ out ++ ended_text (chosen p, Some marks)
marked_choice p marks out =
    append_assoc (out ++ pick_text p) (flat_map mark_text marks) (10 ∷ []) ∙ append_assoc out (pick_text p) (flat_map mark_text marks ++ 10 ∷ [])
    ∙ ap (λ t. out ++ t) (sym (append_assoc (pick_text p) (flat_map mark_text marks) (10 ∷ [])) ∙ ap (λ t. (t ++ flat_map mark_text marks) ++ 10 ∷ []) (pick_line p))

-- ---- choices from a place on

pub later_from : (i : ℕ) (bounds : List (ArrayVec Bound)) → later_marks (map bounds_seen (drop i bounds)) ≡ map bounds_seen (drop (i + 1) bounds)
later_from zero [] = refl
later_from (suc i) [] = let same : suc i + 1 ≡ suc (i + 1) = omega arith in ap (λ k. map bounds_seen (drop k [])) (sym same)
later_from zero (b ∷ bounds) = refl
later_from (suc i) (b ∷ bounds) = let same : suc i + 1 ≡ suc (i + 1) = omega arith in later_from i bounds ∙ ap (λ k. map bounds_seen (drop k (b ∷ bounds))) (sym same)

pub first_from : (i : ℕ) (bounds : List (ArrayVec Bound)) → first_marks (map bounds_seen (drop i bounds)) ≡ option_map bounds_seen (slice_get bounds i)
first_from zero [] = refl
first_from (suc i) [] = refl
first_from zero (b ∷ bounds) = refl
first_from (suc i) (b ∷ bounds) = first_from i bounds

pub picks_from : (i : ℕ) (picks : List Pick) (d : Pick) (marks : List (List PureBound)) → i < length picks →
    picks_text marks (map pick_seen (drop i picks))
    ≡ ended_text (chosen (pick_seen (get_or picks i d)), first_marks marks) ++ picks_text (later_marks marks) (map pick_seen (drop (i + 1) picks))
picks_from i [] d marks lt = absurd (omega (arith, lt))
picks_from zero (p ∷ picks) d marks lt = refl
picks_from (suc i) (p ∷ picks) d marks lt =
    let same : suc i + 1 ≡ suc (i + 1) = omega arith in
    picks_from i picks d marks (omega (arith, lt))
    ∙ ap (λ k. ended_text (chosen (pick_seen (get_or picks i d)), first_marks marks) ++ picks_text (later_marks marks) (map pick_seen (drop k (p ∷ picks)))) (sym same)

-- ---- matches from a place on

pub records_from : (i : ℕ) (bounds : Lists) (matches : List MatchRecord) (d : MatchRecord) → i < length matches →
    records_told (drop i bounds) (drop i matches)
    ≡ record_told (map bounds_seen (told_at bounds i)) (record_seen (get_or matches i d)) ++ records_told (drop (i + 1) bounds) (drop (i + 1) matches)
records_from i bounds [] d lt = absurd (omega (arith, lt))
records_from zero [] (r ∷ matches) d lt = refl
records_from zero (b ∷ bounds) (r ∷ matches) d lt = refl
records_from (suc i) [] (r ∷ matches) d lt =
    let same : suc i + 1 ≡ suc (i + 1) = omega arith in
    ap (λ bs. records_told bs (drop i matches)) (sym (drop_none i)) ∙ records_from i [] matches d (omega (arith, lt))
    ∙ ap (λ bs. record_told [] (record_seen (get_or matches i d)) ++ records_told bs (drop (i + 1) matches)) (drop_none (i + 1) ∙ sym (drop_none (suc i + 1)))
    ∙ ap (λ k. record_told [] (record_seen (get_or matches i d)) ++ records_told (drop (suc i + 1) []) (drop k (r ∷ matches))) (sym same)
  where
    drop_none : {A : Type 0} (i : ℕ) → drop {A = A} i [] ≡ []
    drop_none zero = refl
    drop_none (suc i) = refl
records_from (suc i) (b ∷ bounds) (r ∷ matches) d lt =
    let same : suc i + 1 ≡ suc (i + 1) = omega arith in
    records_from i bounds matches d (omega (arith, lt))
    ∙ ap (λ k. record_told (map bounds_seen (told_at bounds i)) (record_seen (get_or matches i d)) ++ records_told (drop k (b ∷ bounds)) (drop k (r ∷ matches))) (sym same)

-- ---- marks match by match are marks one after the other

pub none_told : (matches : List MatchRecord) → records_told [] matches ≡ matches_told [] (map record_seen matches)
none_told [] = refl
none_told (r ∷ matches) =
    ap (λ t. record_told [] (record_seen r) ++ t) (none_told matches)
    ∙ ap (λ marks. record_told [] (record_seen r) ++ matches_told marks (map record_seen matches)) (sym (none_left (record_seen r).picks))

own_picks : (marks rest : List (List PureBound)) (picks : List PurePick) → length marks ≡ length picks →
    (picks_text (marks ++ rest) picks ≡ picks_text marks picks) × (left_for picks (marks ++ rest) ≡ rest)
own_picks [] rest [] e = (refl, refl)
own_picks [] rest (p ∷ picks) e = absurd (omega (arith, e))
own_picks (m ∷ marks) rest [] e = absurd (omega (arith, e))
own_picks (m ∷ marks) rest (p ∷ picks) e =
    let more = own_picks marks rest picks (omega (arith, e)) in
    (ap (λ t. ended_text (chosen p, Some m) ++ t) more.0, more.1)

own_record : (marks rest : List (List PureBound)) (r : Record) → length marks ≡ length r.picks →
    (record_told (marks ++ rest) r ≡ record_told marks r) × (left_for r.picks (marks ++ rest) ≡ rest)
own_record marks rest r e =
    let own = own_picks marks rest r.picks e in
    (ap (λ t. match_line r ++ t ++ shuffles_line r.shuffles ++ end_line r.ending r.turn ++ flat_map score_line r.scores) own.0, own.1)

first_fits : (b : Vec (ArrayVec Bound) Global) (bounds : Lists) (r : MatchRecord) (matches : List MatchRecord) → AreFor (r ∷ matches) (b ∷ bounds) →
    (length b.items ≡ length r.picks.items) × AreFor matches bounds
first_fits b bounds r matches e = (cc, cc)

pub own_told : (bounds : Lists) (matches : List MatchRecord) → AreFor matches bounds → records_told bounds matches ≡ matches_told (all_bounds bounds) (map record_seen matches)
own_told [] [] e = refl
own_told [] (r ∷ matches) e = absurd cc
own_told (b ∷ bounds) [] e = absurd cc
own_told (b ∷ bounds) (r ∷ matches) e =
    let fits = first_fits b bounds r matches e in
    let a = length-map b.items bounds_seen in
    let c = length-map r.picks.items pick_seen in
    let own = own_record (match_bounds b) (all_bounds bounds) (record_seen r) (omega (arith, a, c, fits.0)) in
    (λ i. sym own.0 i ++ own_told bounds matches fits.1 i)
    ∙ ap (λ marks. record_told (all_bounds (b ∷ bounds)) (record_seen r) ++ matches_told marks (map record_seen matches)) (sym own.1)

-- ---- the list of a match

pub told_is : (told : Lists) (i : ℕ) (b : Vec (ArrayVec Bound) Global) → i < length told → b ≡ get_or told i b → b.items ≡ told_at told i
told_is [] i b lt is = absurd (omega (arith, lt))
told_is (c ∷ told) zero b lt is = ap (λ v. v.items) is
told_is (c ∷ told) (suc i) b lt is = told_is told i b (omega (arith, lt)) is

pub told_none : (told : Lists) (i : ℕ) → length told ≤ i → told_at told i ≡ []
told_none [] i le = refl
told_none (c ∷ told) zero le = absurd (omega (arith, le))
told_none (c ∷ told) (suc i) le = told_none told i (omega (arith, le))

-- ---- whole texts

pub plain_parts : (text : HouseText) → text_of text ≡ codes "house 1\n" ++ parts_of text []
plain_parts text =
    ap (λ t. codes "house 1\n" ++ (t ++ flat_map standing_line (map standing_seen text.standings.items)))
    (sym (bare_matches (map record_seen text.matches.items)) ∙ sym (none_told text.matches.items))

pub named_parts : (legend : List ℕ) (named : NamedText) → (lines_in legend).1 ≡ [] → Fits named →
    text_in (naming (lines_in legend).0) (named_seen named) ≡ (codes "house 2\n" ++ legend) ++ parts_of named.text named.bounds.items
named_parts legend named none fits =
    let standings = flat_map standing_line (map standing_seen named.text.standings.items) in
    let lines : flat_map with_end_byte (lines_in legend).0 ≡ legend =
    sym (append-nil (flat_map with_end_byte (lines_in legend).0)) ∙ ap (λ t. flat_map with_end_byte (lines_in legend).0 ++ t) (sym none) ∙ joined legend in
    text_apart (naming (lines_in legend).0) (named_seen named)
    ∙ (λ i. (codes "house 2\n" ++ lines i) ++ (sym (own_told named.bounds.items named.text.matches.items fits) i ++ standings))
