-- The counts that a part adds to, by what earlier parts left behind and by the earlier parts.
use Rattle.std.proofs.Common.{◌≡◌, ℕ, ◌+◌, min, leb, ltb, Bool, cond, ◌&&◌, ◌||◌, List, [], ◌∷◌, ◌++◌, length, sum, refl, sym, ap, ◌∙◌, length-append}
use Rattle.std.specs.List.{flat_map, fold, list_any, sum_by}
use Rattle.std.specs.Option.{is_some}
use Rattle.std.proofs.lemmas.Grind.{flat_map-append}
use Rattle.std.proofs.lemmas.List.Sums.{fold-append}
use Rattle.rc_base.specs.Tree.{Trees}
use Rattle.rc_base.specs.Limits.{most_cards, most_locations, most_numbers, most_attrs, most_values, most_maps, most_stages, most_sites}
use Rattle.rc_sheet_spec.specs.WellFormed.{owner_count_by}
use Rattle.rc_check.specs.SecondParts.{Role, given_value, Standing, Part, atom, form, part_at, word_in}
use Rattle.rc_check.specs.SecondNames.{player_count, team_count, cards_in, faces_of, attributes_in, value_by, values_in, maps_in, mention_of, locations_in, numbers_of, first_mention, owned, firsts_from, stages_in, choices_in, different_count, OwnedMention}
use Rattle.rc_check.specs.SecondFaults.{passes, card_count, attribute_count, value_count, map_count, stage_count, choice_count, location_count, number_count, atom_counts, counts_of, is_too_deep, is_too_many}
use Rattle.rc_check.specs.Summary.{Whole, Summary, teams_of, owners_of, Owned, new_owned, new_words, goes_over, is_value_over, is_form_over, is_over}
use Rattle.rc_base.specs.Words.{with_word}
use Rattle.rc_check.proofs.DifferentWords.{or-false, counts_different, counts_one_more}
use Rattle.rc_check.proofs.Totals.{goes_over_whole}
use Rattle.rc_check.proofs.Owners.{adds_last}
use Rattle.rc_check.proofs.Known.{Knows}
use Rattle.rc_check.proofs.Seen.{Recalls}
use Rattle.rc_check.specs.declared.grammar.Rule.{Rule}
use Rattle.rc_check.specs.declared.grammar.Rule.TheVariants as rule

-- one more word passes the limit just where the different words among all do
words_over : (most : ℕ) (words given : List (List ℕ)) (word : List ℕ) → words ≡ fold with_word [] given
    → goes_over most (length words) (new_words word words)
    ≡ (leb (different_count given) most && ltb most (different_count (given ++ word ∷ [])))
words_over most words given word is =
    let kept = fold with_word [] given in
    ap (λ ws. goes_over most (length ws) (new_words word ws)) is
    ∙ ap (λ n. leb n most && ltb most (n + new_words word kept)) (counts_different given)
    ∙ ap (λ m. leb (different_count given) most && ltb most m) (sym (counts_one_more given word))

-- the sum with one more number, and a count of one more
sum_last : (numbers : List ℕ) (n : ℕ) → sum (numbers ++ n ∷ []) ≡ sum numbers + n
sum_last numbers n = fold-append (λ a x. a + x) 0 numbers (n ∷ [])

length_last : (numbers : List ℕ) (n : ℕ) → length (numbers ++ n ∷ []) ≡ length numbers + 1
length_last numbers n = length-append numbers (n ∷ [])

-- A part of a form of which this is known, behind these parts.
module _ (all : List Part) (whole : Whole) (knows : Knows all whole) (earlier : List Part) (seen : Summary)
    (recalls : Recalls whole earlier seen) where
  -- what a part gives stands behind what earlier ones gave
  given_last : {X : Type 0} (given : Part → List X) (part : Part)
      → flat_map given (earlier ++ part ∷ []) ≡ flat_map given earlier ++ flat_map given (part ∷ [])
  given_last given part = flat_map-append given earlier (part ∷ [])

  -- different words, of which the part gives one
  words_pass : (most : ℕ) (given : Part → List (List ℕ)) (words : List (List ℕ)) (part : Part) (word : List ℕ)
      → words ≡ fold with_word [] (flat_map given earlier) → flat_map given (part ∷ []) ≡ word ∷ []
      → goes_over most (length words) (new_words word words)
      ≡ passes most (λ parts. different_count (flat_map given parts)) earlier part
  words_pass most given words part word is gives =
      let before = flat_map given earlier in
      words_over most words before word is
      ∙ ap (λ ws. leb (different_count before) most && ltb most (different_count (before ++ ws))) (sym gives)
      ∙ ap (λ ws. leb (different_count before) most && ltb most (different_count ws))
      (sym (given_last given part))

  -- a count that stops one above its limit, to which the part adds so many
  count_pass : (most n more : ℕ) (count : List Part → ℕ) (part : Part) → n ≡ min (count earlier) (most + 1)
      → count (earlier ++ part ∷ []) ≡ count earlier + more → goes_over most n more ≡ passes most count earlier part
  count_pass most n more count part is adds =
      goes_over_whole most n (count earlier) more is ∙ ap (λ m. leb (count earlier) most && ltb most m) (sym adds)

  -- a sum of numbers, and a count of things
  sum_pass : (most n more : ℕ) (given : Part → List ℕ) (part : Part) → n ≡ min (sum (flat_map given earlier)) (most + 1)
      → flat_map given (part ∷ []) ≡ more ∷ []
      → goes_over most n more ≡ passes most (λ parts. sum (flat_map given parts)) earlier part
  sum_pass most n more given part is gives =
      count_pass most n more (λ parts. sum (flat_map given parts)) part is
      (ap sum (given_last given part) ∙ ap (λ ns. sum (flat_map given earlier ++ ns)) gives
      ∙ sum_last (flat_map given earlier) more)

  length_pass : (most n one : ℕ) (given : Part → List ℕ) (part : Part) → n ≡ min (length (flat_map given earlier)) (most + 1)
      → flat_map given (part ∷ []) ≡ one ∷ []
      → goes_over most n 1 ≡ passes most (λ parts. length (flat_map given parts)) earlier part
  length_pass most n one given part is gives =
      count_pass most n 1 (λ parts. length (flat_map given parts)) part is
      (ap length (given_last given part) ∙ ap (λ ns. length (flat_map given earlier ++ ns)) gives
      ∙ length_last (flat_map given earlier) one)

  -- locations, or numbers, of all owners
  abbrev count_in : (Part → List OwnedMention) → List Part → ℕ
  count_in given parts = owned (player_count all) (team_count all) (flat_map given parts)

  owned_so_far : (given : Part → List OwnedMention) (most : ℕ) (total : ℕ)
      → total ≡ min (sum_by (owners_of whole) (firsts_from [] (flat_map given earlier))) (most + 1)
      → total ≡ min (count_in given earlier) (most + 1)
  owned_so_far given most total is =
      is
      ∙ ap (λ n. min (owned n (teams_of whole) (flat_map given earlier)) (most + 1)) knows.players_known
      ∙ ap (λ n. min (owned (player_count all) n (flat_map given earlier)) (most + 1)) knows.teams_known

  -- how many owners there are of a mention's class
  owners_known : (mention : OwnedMention) → owners_of whole mention ≡ owner_count_by (player_count all) (team_count all) mention.class
  owners_known mention =
      ap (λ n. owner_count_by n (teams_of whole) mention.class) knows.players_known
      ∙ ap (λ n. owner_count_by (player_count all) n mention.class) knows.teams_known

  -- the first mention of each name is that of the earlier parts
  abbrev FirstsOf : Owned → (Part → List OwnedMention) → Type 0
  FirstsOf owned given = (name : List ℕ) → first_mention name owned.firsts ≡ first_mention name (flat_map given earlier)

  -- a part that mentions one more
  owned_last : (given : Part → List OwnedMention) (owned : Owned) (part : Part) (mention : OwnedMention) → FirstsOf owned given
      → flat_map given (part ∷ []) ≡ mention ∷ []
      → count_in given (earlier ++ part ∷ []) ≡ count_in given earlier + new_owned whole mention owned
  owned_last given owned' part mention firsts gives =
      ap (owned (player_count all) (team_count all)) (given_last given part)
      ∙ ap (λ ms. owned (player_count all) (team_count all) (flat_map given earlier ++ ms)) gives
      ∙ adds_last (λ m. owner_count_by (player_count all) (team_count all) m.class) mention (flat_map given earlier)
      ∙ ap (λ n. count_in given earlier + cond (is_some (first_mention mention.name (flat_map given earlier))) 0 n)
      (sym (owners_known mention))
      ∙ ap (λ found. count_in given earlier + cond (is_some found) 0 (owners_of whole mention)) (sym (firsts mention.name))

  -- so the limit is passed where that of all mentions is
  owned_pass : (most : ℕ) (given : Part → List OwnedMention) (owned : Owned) (part : Part) (mention : OwnedMention) → FirstsOf owned given
      → owned.total ≡ min (sum_by (owners_of whole) (firsts_from [] (flat_map given earlier))) (most + 1)
      → flat_map given (part ∷ []) ≡ mention ∷ []
      → goes_over most owned.total (new_owned whole mention owned) ≡ passes most (count_in given) earlier part
  owned_pass most given owned' part mention firsts total gives =
      count_pass most owned'.total (new_owned whole mention owned') (count_in given) part
      (owned_so_far given most owned'.total total)
      (owned_last given owned' part mention firsts gives)

  -- a part passes one of its counts
  abbrev some_pass : Part → Bool
  some_pass part = list_any (λ count. passes count.0 count.1 earlier part) (counts_of all part)

  -- a value that the setup gives
  value_over : (role : Role) (bytes : List ℕ) (part : Part) → flat_map values_in (part ∷ []) ≡ value_by role bytes ++ []
      → is_value_over seen role bytes ≡ list_any (λ count. passes count.0 count.1 earlier part) (atom_counts role)
  value_over given_value bytes part gives =
      words_pass most_values values_in seen.values part bytes recalls.values_seen gives
      ∙ sym (or-false (passes most_values value_count earlier part))
  value_over role bytes part gives = refl

  -- a form
  form_over : (at : Standing) (rule : Rule) (parts : Trees) (from : ℕ)
      → is_form_over whole seen rule parts ≡ some_pass (form at rule parts from)
  form_over at rule.CreateDeck parts from =
      sum_pass most_cards seen.cards (faces_of (part_at 3 parts)) cards_in
      (form at rule.CreateDeck parts from) recalls.cards_seen refl
      ∙ sym (or-false (passes most_cards card_count earlier (form at rule.CreateDeck parts from)))
  form_over at rule.Location parts from =
      owned_pass most_locations locations_in seen.locations (form at rule.Location parts from)
      (mention_of parts) recalls.locations_seen recalls.location_total refl
      ∙ sym (or-false (passes most_locations (location_count all) earlier (form at rule.Location parts from)))
  form_over at rule.Counter parts from =
      owned_pass most_numbers numbers_of seen.numbers (form at rule.Counter parts from)
      (mention_of parts) recalls.numbers_seen recalls.number_total refl
      ∙ sym (or-false (passes most_numbers (number_count all) earlier (form at rule.Counter parts from)))
  form_over at rule.Group parts from =
      words_pass most_attrs attributes_in seen.attributes (form at rule.Group parts from)
      (word_in 0 parts) recalls.attributes_seen refl
      ∙ sym (or-false (passes most_attrs attribute_count earlier (form at rule.Group parts from)))
  form_over at rule.Entry parts from =
      words_pass most_attrs attributes_in seen.attributes (form at rule.Entry parts from)
      (word_in 0 parts) recalls.attributes_seen refl
      ∙ sym (or-false (passes most_attrs attribute_count earlier (form at rule.Entry parts from)))
  form_over at rule.PutPoints parts from =
      words_pass most_maps maps_in seen.maps (form at rule.PutPoints parts from) (word_in 2 parts) recalls.maps_seen refl
      ∙ sym (or-false (passes most_maps map_count earlier (form at rule.PutPoints parts from)))
  form_over at rule.PlayerStage parts from =
      length_pass most_stages seen.stages from stages_in (form at rule.PlayerStage parts from) recalls.stages_seen refl
      ∙ sym (or-false (passes most_stages stage_count earlier (form at rule.PlayerStage parts from)))
  form_over at rule.TeamStage parts from =
      length_pass most_stages seen.stages from stages_in (form at rule.TeamStage parts from) recalls.stages_seen refl
      ∙ sym (or-false (passes most_stages stage_count earlier (form at rule.TeamStage parts from)))
  form_over at rule.Choice parts from =
      length_pass most_sites seen.choices from choices_in (form at rule.Choice parts from) recalls.choices_seen refl
      ∙ sym (or-false (passes most_sites choice_count earlier (form at rule.Choice parts from)))
  form_over at rule parts from = refl

  -- TOO MANY
  pub over_is_too_many : (part : Part) → is_over whole seen part ≡ is_too_many all earlier part
  over_is_too_many (atom at bytes from) =
      value_over at.role bytes (atom at bytes from) refl ∙ sym (or-false (some_pass (atom at bytes from)))
  over_is_too_many (form at rule parts from) =
      ap (λ over. over || is_too_deep (form at rule parts from)) (form_over at rule parts from)
