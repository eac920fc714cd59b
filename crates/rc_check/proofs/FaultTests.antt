-- The tests of a part by what earlier parts left behind are those by the earlier parts.
use Rattle.std.proofs.Common.{◌≡◌, ℕ, leb, eqb, not, ◌&&◌, ◌||◌, List, [], length, refl, ap, ◌∙◌}
use Rattle.std.specs.List.{flat_map}
use Rattle.rc_base.specs.Tree.{Trees}
use Rattle.rc_sheet_spec.specs.WellFormed.{is_among}
use Rattle.rc_check.specs.SecondParts.{Role, used_attribute, used_value, used_map, Standing, Part, atom, form, word_in}
use Rattle.rc_check.specs.SecondNames.{some_of, is_named, number_by, teams_in, maps_in, mention_of}
use Rattle.rc_check.specs.SecondFaults.{is_player_again, is_twice, is_unbound, is_unnamed, is_no_player, is_unknown, differs_from, is_misplaced, is_other_side, is_wrong_form, is_wrong_kind, lacks_cards}
use Rattle.rc_check.specs.Summary.{Whole, Summary, players_of, is_member_again, is_form_again, is_again, is_not_given, is_stranger, misses_player, is_unknown_form, is_not_known, is_wrong_mention, is_wrong, is_setup_without_deck}
use Rattle.rc_check.proofs.DifferentWords.{named_fold}
use Rattle.rc_check.proofs.Known.{Knows}
use Rattle.rc_check.proofs.Seen.{Recalls}
use Rattle.rc_check.specs.declared.grammar.Symbol.{Symbol}
use Rattle.rc_check.specs.declared.grammar.Symbol.TheVariants as symbol
use Rattle.rc_check.specs.declared.grammar.Rule.{Rule}
use Rattle.rc_check.specs.declared.grammar.Rule.TheVariants as rule

-- A part of a form of which this is known, behind these parts.
module _ (all : List Part) (whole : Whole) (knows : Knows all whole) (earlier : List Part) (seen : Summary)
    (recalls : Recalls whole earlier seen) where
  -- TWICE
  member_again : (place : Symbol) (bytes : List ℕ) → is_member_again seen place bytes ≡ is_player_again earlier place bytes
  member_again symbol.Member bytes =
      ap (λ one. one && is_among (number_by bytes) seen.members) recalls.first_seen
      ∙ ap (λ members. eqb (length (flat_map teams_in earlier)) 1 && is_among (number_by bytes) members) recalls.members_seen
  member_again place bytes = refl

  map_again : (name : List ℕ) → is_named name seen.maps ≡ is_named name (flat_map maps_in earlier)
  map_again name = ap (is_named name) recalls.maps_seen ∙ named_fold name [] (flat_map maps_in earlier)

  form_again : (at : Standing) (rule : Rule) (parts : Trees) (from : ℕ)
      → is_form_again seen at rule parts ≡ is_twice earlier (form at rule parts from)
  form_again at rule.CreatePlayers parts from = recalls.players_seen
  form_again at rule.CreateTeams parts from = recalls.teams_seen
  form_again at rule.PutPoints parts from = map_again (word_in 2 parts)
  form_again at rule parts from = refl

  pub again_is_twice : (part : Part) → is_again seen part ≡ is_twice earlier part
  again_is_twice (atom at bytes from) = member_again at.place bytes
  again_is_twice (form at rule parts from) = form_again at rule parts from

  -- UNKNOWN
  not_given : (role : Role) (bytes : List ℕ) → is_not_given whole role bytes ≡ is_unnamed all role bytes
  not_given used_attribute bytes = ap not (knows.attributes_known bytes)
  not_given used_value bytes = ap not (knows.values_known bytes)
  not_given used_map bytes = ap not (knows.maps_known bytes)
  not_given role bytes = refl

  stranger : (place : Symbol) (bytes : List ℕ) → is_stranger whole seen place bytes ≡ is_no_player all earlier place bytes
  stranger symbol.Member bytes =
      ap (λ one. one && leb (players_of whole) (number_by bytes)) recalls.first_seen
      ∙ ap (λ n. eqb (length (flat_map teams_in earlier)) 1 && leb n (number_by bytes)) knows.players_known
  stranger place bytes = refl

  unknown_form : (at : Standing) (rule : Rule) (parts : Trees) (from : ℕ)
      → is_unknown_form whole seen at rule parts ≡ is_unknown all earlier (form at rule parts from)
  unknown_form at rule.CreateTeams parts from =
      ap (λ some. not some && misses_player (players_of whole) parts) recalls.teams_seen
      ∙ ap (λ n. not (some_of (flat_map teams_in earlier)) && misses_player n parts) knows.players_known
  unknown_form at rule parts from = refl

  pub not_known_is_unknown : (part : Part) → is_not_known whole seen part ≡ is_unknown all earlier part
  not_known_is_unknown (atom at bytes from) =
      ap (λ given. (is_unbound at bytes || given) || is_stranger whole seen at.place bytes) (not_given at.role bytes)
      ∙ ap (λ one. (is_unbound at bytes || is_unnamed all at.role bytes) || one) (stranger at.place bytes)
  not_known_is_unknown (form at rule parts from) = unknown_form at rule parts from

  -- WRONG KIND
  wrong_mention : (at : Standing) (rule : Rule) (parts : Trees)
      → is_wrong_mention seen at rule parts ≡ is_wrong_form earlier at rule parts
  wrong_mention at rule.Location parts =
      ap (λ found. differs_from (mention_of parts) found || is_misplaced at.role (mention_of parts))
      (recalls.locations_seen (word_in 2 parts))
  wrong_mention at rule.Counter parts = ap (differs_from (mention_of parts)) (recalls.numbers_seen (word_in 2 parts))
  wrong_mention at rule parts = refl

  pub wrong_is_wrong_kind : (part : Part) → is_wrong seen part ≡ is_wrong_kind earlier part
  wrong_is_wrong_kind (atom at bytes from) = refl
  wrong_is_wrong_kind (form at rule parts from) = ap (λ wrong. wrong || is_other_side at at.role) (wrong_mention at rule parts)

  -- NO CARDS
  pub without_deck : (part : Part) → is_setup_without_deck whole part ≡ lacks_cards all part
  without_deck (atom at bytes from) = refl
  without_deck (form at rule.Setup parts from) = ap not knows.deck_known
  without_deck (form at rule parts from) = refl
