-- The cards that a setup says: as many as its form writes, which are some and few.
use Rattle.std.proofs.Common.{◌≡◌, ℕ, ◌+◌, ◌*◌, ◌≤◌, false, not, List, [], ◌∷◌, ◌++◌, length, map, flat_map, Option, Some, None, refl, sym, subst, ap, ap₂, ◌∙◌, arith}
use Rattle.std.specs.Prelude.{sum, sum_by, codes}
use Rattle.std.proofs.lemmas.List.{append-nil, length-map, map-append}
use Rattle.std.proofs.lemmas.List.Sums.{sum-map}
use Rattle.std.proofs.lemmas.Grind.{flat_map-append}
use Rattle.rc_base.specs.Tree.{Tree, word, list, Trees, nil, cons}
use Rattle.rc_base.specs.Deck.{no_group, group, no_branch, branch, face_count, branch_count}
use Rattle.rc_resolve.specs.NamedNumbers.{DeckNames}
use Rattle.rc_sheet_spec.specs.Sheet.{DeckLine, Sheet}
use Rattle.rc_base.specs.Limits.{most_cards}
use Rattle.rc_sheet_spec.specs.Naming.{Naming}
use Rattle.rc_resolve.specs.NamedNumbers.{number_of}
use Rattle.rc_resolve.specs.Reading.{unless_nil, plain, read_groups, read_group, read_branches, read_branch, is_word, read_deck}
use Rattle.rc_check.specs.Faults.{faults}
use Rattle.rc_check.specs.declared.grammar.Symbol.TheVariants as symbol
use Rattle.rc_check.specs.declared.grammar.Rule.TheVariants as rule
use Rattle.rc_check.specs.SecondParts.{Part, atom, form, parts_of}
use Rattle.rc_check.specs.SecondNames.{some_of, faces_of, cards_in, written_faces, written_branches}
use Rattle.rc_check.specs.SecondFaults.{card_count, second_faults}
use Rattle.rc_resolve.specs.Naming.{naming_of}
use Rattle.rc_sheet.specs.ReadNames.{loc_at}
use Rattle.rc_sheet.specs.ReadSetup.{face_words, home_of, deck_at}
use Rattle.rc_sheet.specs.ReadSheet.{setup_form_at, sheet_at}
use Rattle.rc_sheet.proofs.Means.{Means, nothing, something, means_so, weaker, mapped, behind, either, made_of, anything}
use Rattle.rc_sheet.proofs.Fine.Counts.{IsWatched, stays_within, watched_part}
use Rattle.rc_sheet.proofs.Faultless.{each_faultless}
use Rattle.rc_sheet.proofs.Whole.{sheet_only}
use Rattle.rc_sheet.proofs.Fine.Lines.{setup_in, whole_form, cards_of_lines, line_adds, adds_none, setup_keeps}
use Rattle.rc_sheet.proofs.SheetSetup.{by_setup}

-- WHAT IS READ HAS AS MANY FACES

-- a word before trees counts for nothing
head_only : (words : List (List ℕ)) (head : Tree) (groups : Trees)
    → Means (number_of words head) (λ n. written_faces (cons head groups) ≡ written_faces groups)
head_only words (word bytes from to) groups = weaker (number_of words (word bytes from to)) (anything _) (λ n u. refl)
head_only words (list parts from to) groups = nothing

-- where there are trees
pub unless_none : {A : Type 0} {P : A → Type 0} (trees : Trees) (found : Option A) → Means found P
    → Means (unless_nil trees found) P
unless_none nil found means = nothing
unless_none (cons tree trees) found means = means

mutual
  faces_read : (names : DeckNames) (trees : Trees)
      → Means (read_groups names trees) (λ groups. face_count groups ≡ written_faces trees)
  faces_read names nil = something no_group refl
  faces_read names (cons tree trees) =
      made_of (λ first rest. group first.0 first.1 rest) (read_group names tree) (read_groups names trees)
      (group_read names tree trees) (faces_read names trees)
      (λ first rest one more. ap (λ n. branch_count first.1 * n) more ∙ one)

  -- a group before others
  group_read : (names : DeckNames) (tree : Tree) (rest : Trees)
      → Means (read_group names tree) (λ found. branch_count found.1 * written_faces rest ≡ written_faces (cons tree rest))
  group_read names (word bytes from to) rest = nothing
  group_read names (list nil from to) rest = nothing
  group_read names (list (cons head nil) from to) rest = nothing
  group_read names (list (cons head (cons (word bytes a b) nil)) from to) rest =
      made_of (λ attr branches. (attr, branches)) (number_of names.attrs head) None (anything _) nothing
      (λ attr branches u n. absurd n)
  group_read names (list (cons head (cons (list parts a b) nil)) from to) rest =
      made_of (λ attr branches. (attr, branches)) (number_of names.attrs head) (unless_nil parts (read_branches names parts))
      (anything _) (unless_none parts (read_branches names parts) (branches_read names parts))
      (λ attr branches u same. ap (λ n. n * written_faces rest) same)
  group_read names (list (cons head (cons second (cons third others))) from to) rest = nothing

  branches_read : (names : DeckNames) (trees : Trees)
      → Means (read_branches names trees) (λ branches. branch_count branches ≡ written_branches trees)
  branches_read names nil = something no_branch refl
  branches_read names (cons tree trees) =
      made_of (λ first rest. branch first.0 first.1 rest) (read_branch names tree) (read_branches names trees)
      (branch_read names tree trees) (branches_read names trees)
      (λ first rest one more. ap (λ n. face_count first.1 + n) more ∙ one)

  -- a branch before others
  branch_read : (names : DeckNames) (tree : Tree) (rest : Trees)
      → Means (read_branch names tree) (λ found. face_count found.1 + written_branches rest ≡ written_branches (cons tree rest))
  branch_read names (word bytes from to) rest =
      mapped (number_of names.values (word bytes from to)) plain (anything _) (λ value u. refl)
  branch_read names (list nil from to) rest = nothing
  branch_read names (list (cons head groups) from to) rest =
      made_of (λ number inner. (number, inner)) (number_of names.values head) (unless_nil groups (read_groups names groups))
      (head_only names.values head groups) (unless_none groups (read_groups names groups) (faces_read names groups))
      (λ number inner alone same. ap (λ n. n + written_branches rest) (same ∙ sym alone))

-- a deck
deck_read : (names : DeckNames) (tree : Tree) → Means (read_deck names tree) (λ groups. face_count groups ≡ faces_of tree)
deck_read names (word bytes from to) = nothing
deck_read names (list nil from to) = nothing
deck_read names (list (cons (list parts a b) groups) from to) = nothing
deck_read names (list (cons (word bytes a b) groups) from to) =
    either (is_word (codes "deck") (word bytes a b)) (unless_nil groups (read_groups names groups)) None
    (λ is. unless_none groups (read_groups names groups) (faces_read names groups))
    (λ is. nothing)

-- the line of a deck
deck_line_read : (naming : Naming) (loc tree : Tree)
    → Means (deck_at naming loc tree) (λ line. face_count line.groups ≡ faces_of tree)
unfolding deck_at
deck_line_read naming loc tree =
    behind (loc_at naming [] loc) _ (anything _)
    (λ home u. behind (home_of home.who home.name) _ (anything _)
    (λ number u'. behind (read_deck (face_words naming) tree) _ (deck_read (face_words naming) tree)
    (λ groups same. something (record { loc = number; groups = groups }) same)))

-- THE LINES

abbrev faces_in : List DeckLine → List ℕ
faces_in decks = map (λ line. face_count line.groups) decks

-- THE LAW: the cards of the setup that is read are those that the form's parts count.
pub faces_are_counted : (tree : Tree) → faults symbol.Sheet tree ≡ [] → second_faults tree ≡ []
    → Means (setup_form_at (naming_of tree) (setup_in tree)) (λ s. faces_in s.decks ≡ flat_map cards_in (parts_of tree))
faces_are_counted tree shaped sound =
    weaker _
    (setup_keeps (λ said seen. faces_in said.decks ≡ flat_map cards_in seen) tree shaped sound (
      record {
        players = λ said earlier at create second last from to n line first is q.
            q ∙ sym (adds_none cards_in cards_of_lines line refl refl);
        teams = λ said earlier at create second parts from to all line first is q.
            q ∙ sym (adds_none cards_in cards_of_lines line refl refl);
        decks = λ said earlier at create second loc inner from to deck line is q.
            map-append (λ line. face_count line.groups) said.decks (deck ∷ [])
            ∙ ap₂ (λ l n. l ++ n ∷ []) q (means_so _ deck (deck_line_read (naming_of tree) loc inner) is)
            ∙ sym (line_adds cards_in cards_of_lines line refl);
        points = λ said earlier at put second map inner from to entries line is q.
            q ∙ sym (adds_none cards_in cards_of_lines line refl refl);
      },
      λ parts start. sym start.cards,
    ))
    (λ s is. ap faces_in (sym is.decks) ∙ is.is ∙ sym is.all.cards)

-- there are few cards
nothing_more : (earlier : List Part) (part : Part) → cards_in part ≡ [] → card_count earlier ≤ most_cards
    → card_count (earlier ++ part ∷ []) ≤ most_cards
nothing_more earlier part none le =
    subst (λ l. sum l ≤ most_cards)
    (sym (flat_map-append cards_in earlier (part ∷ []) ∙ ap (λ l. flat_map cards_in earlier ++ (l ++ [])) none
    ∙ append-nil (flat_map cards_in earlier))) le

cards_watched : (all : List Part) → IsWatched most_cards card_count all
cards_watched all earlier (atom at bytes from) is le = nothing_more earlier (atom at bytes from) refl le
cards_watched all earlier (form at rule.CreateDeck parts from) is le =
    watched_part most_cards card_count earlier (form at rule.CreateDeck parts from) _ is le
cards_watched all earlier (form at r parts from) is le = nothing_more earlier (form at r parts from) refl le

pub few_cards : (tree : Tree) → second_faults tree ≡ [] → card_count (parts_of tree) ≤ most_cards
few_cards tree sound =
    stays_within most_cards card_count (parts_of tree) (cards_watched (parts_of tree)) [] (parts_of tree) sound (omega arith)

-- and there are some
has_some : {A : Type 0} (xs : List A) → not (some_of xs) ≡ false → 1 ≤ length xs
has_some [] is = absurd cc
has_some (x ∷ xs) is = omega arith

pub some_cards : (tree : Tree) → faults symbol.Sheet tree ≡ [] → second_faults tree ≡ []
    → 1 ≤ length (flat_map cards_in (parts_of tree))
some_cards tree shaped sound =
    sheet_only (λ tree. second_faults tree ≡ [] → 1 ≤ length (flat_map cards_in (parts_of tree))) tree shaped
    (λ a b c d e f from to lines rest fits sound.
    let tree = whole_form a b c d e f from to lines rest in
    let each = each_faultless (parts_of tree) [] (parts_of tree) sound in
    has_some (flat_map cards_in (parts_of tree)) each.1.1.0.1.cards)
    sound

-- THE LAW: there is a deck, and there are few cards.
pub cards_are_fine : (tree : Tree) → faults symbol.Sheet tree ≡ [] → second_faults tree ≡ []
    → Means (setup_form_at (naming_of tree) (setup_in tree))
    (λ s. (1 ≤ length s.decks) × (sum_by (λ line. face_count line.groups) s.decks ≤ most_cards))
cards_are_fine tree shaped sound =
    weaker _ (faces_are_counted tree shaped sound)
    (λ s same.
    let some = some_cards tree shaped sound in
    let few = few_cards tree sound in
    let long = sym (length-map s.decks (λ line. face_count line.groups)) ∙ ap length same in
    let total = sym (sum-map (λ line. face_count line.groups) s.decks) ∙ ap sum same in
    (omega (arith, some, long), omega (arith, few, total)))

-- of the sheet too
pub sheet_has_cards : (tree : Tree) (sheet : Sheet) → faults symbol.Sheet tree ≡ [] → second_faults tree ≡ []
    → sheet_at (naming_of tree) tree ≡ Some sheet
    → (1 ≤ length sheet.decks) × (sum_by (λ line. face_count line.groups) sheet.decks ≤ most_cards)
sheet_has_cards tree sheet shaped sound is =
    by_setup (λ sheet. (1 ≤ length sheet.decks) × (sum_by (λ line. face_count line.groups) sheet.decks ≤ most_cards))
    (naming_of tree) tree sheet is
    (weaker _ (cards_are_fine tree shaped sound) (λ s are body. are))
