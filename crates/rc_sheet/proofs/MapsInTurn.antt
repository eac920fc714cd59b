-- The maps of points are numbered in turn: the map of a line of points has the number of the lines of points before it.
use Rattle.std.proofs.Common.{◌≡◌, ℕ, ◌+◌, Bool, true, false, not, ◌||◌, cond, List, [], ◌∷◌, ◌++◌, length, flat_map, Some, None, position, bytes_eq, append_assoc, refl, sym, subst, ap, ◌∙◌, arith}
use Rattle.std.specs.List.{position_or_len}
use Rattle.std.proofs.lemmas.Bool.{or_parts, cond-true, cond-false, lt-ltb}
use Rattle.std.proofs.lemmas.List.{append-nil, length-append}
use Rattle.std.proofs.lemmas.List.Folds.{list_any-append}
use Rattle.std.proofs.lemmas.Grind.{flat_map-append}
use Rattle.std.proofs.lemmas.Slice.Eq.{bytes_eq-Decides}
use Rattle.rc_base.specs.Tree.{Tree, list, Trees, nil, cons}
use Rattle.rc_base.specs.Words.{different, different_from}
use Rattle.rc_sheet_spec.specs.StandsSetup.{begins_with, lines_with}
use Rattle.rc_sheet_spec.specs.FormMentions.{all_gathered, map_word, points_map, map_mentions}
use Rattle.rc_check.specs.Faults.{faults, rule_of}
use Rattle.rc_check.specs.declared.grammar.Symbol.TheVariants as symbol
use Rattle.rc_check.specs.declared.grammar.Rule.{Rule}
use Rattle.rc_check.specs.declared.grammar.Rule.TheVariants as rule
use Rattle.rc_check.specs.SecondParts.{Standing, Part, atom, form, parts_at, parts_in, parts_of, with_form, word_in}
use Rattle.rc_check.specs.SecondNames.{is_named, maps_in}
use Rattle.rc_check.specs.SecondFaults.{faults_of, faults_behind, second_faults}
use Rattle.rc_resolve.specs.Naming.{naming_of}
use Rattle.rc_sheet.proofs.Shapes.{none_in_both}
use Rattle.rc_sheet.proofs.Faultless.{IsFaultless, faultless}
use Rattle.rc_sheet.proofs.Lines.{in_lines}
use Rattle.rc_sheet.proofs.Whole.{sheet_only, maps_give}
use Rattle.rc_sheet.proofs.SetupCounts.{is_below}
use Rattle.rc_sheet.proofs.Fine.Lines.{OfLines}

-- the map of a line of points has the number of the lines of points before it
abbrev pub IsInTurn : List (List ℕ) → List Part → Part → Type 0
IsInTurn maps earlier (form at rule.PutPoints parts from) =
    position (bytes_eq (word_in 2 parts)) maps ≡ Some (length (flat_map maps_in earlier))
IsInTurn maps earlier part = Unit {0}

-- those of all parts behind earlier ones do
abbrev pub AreInTurn : List (List ℕ) → List Part → List Part → Type 0
AreInTurn maps earlier [] = Unit {0}
AreInTurn maps earlier (part ∷ later) = IsInTurn maps earlier part × AreInTurn maps (earlier ++ part ∷ []) later

-- parts, and others behind them
pub in_turn_of_both : (maps : List (List ℕ)) (earlier first second : List Part) → AreInTurn maps earlier (first ++ second)
    → AreInTurn maps earlier first × AreInTurn maps (earlier ++ first) second
in_turn_of_both maps earlier [] second are = (tt, subst (λ e. AreInTurn maps e second) (sym (append-nil earlier)) are)
in_turn_of_both maps earlier (part ∷ first) second are =
    let rest = in_turn_of_both maps (earlier ++ part ∷ []) first second are.1 in
    ((are.0, rest.0), subst (λ e. AreInTurn maps e second) (append_assoc earlier (part ∷ []) first) rest.1)

-- the parts of a line of points begin with its form
pub line_in_turn : (maps : List (List ℕ)) (earlier : List Part) (at : Standing) (parts : Trees) (from to : ℕ)
    → at.place ≡ symbol.Line → rule_of symbol.Line parts ≡ Some rule.PutPoints
    → AreInTurn maps earlier (parts_at (Some at) (list parts from to))
    → position (bytes_eq (word_in 2 parts)) maps ≡ Some (length (flat_map maps_in earlier))
line_in_turn maps earlier at parts from to here told are =
    (subst (λ o. AreInTurn maps earlier (with_form at parts from (λ r. parts_in at r parts 0 parts) o))
    (ap (λ p. rule_of p parts) here ∙ told) are).0

-- maps are said by lines
pub maps_of_lines : OfLines maps_in
maps_of_lines = record { atoms = λ at bytes from. refl; forms = of_form }
  where
    of_form : (at : Standing) (r : Rule) (parts : Trees) (from : ℕ) → is_below r ≡ true → maps_in (form at r parts from) ≡ []
    of_form at rule.PutPoints parts from is = absurd cc
    of_form at r parts from is = refl

-- ONE LINE AFTER THE OTHER

-- none of these words stands among earlier ones, nor among these before it
abbrev AreNew : List (List ℕ) → List (List ℕ) → Type 0
AreNew earlier [] = Unit {0}
AreNew earlier (word ∷ words) = (is_named word earlier ≡ false) × AreNew (earlier ++ word ∷ []) words

-- words, and others behind them
new_behind : (earlier words others : List (List ℕ)) → AreNew earlier words → AreNew (earlier ++ words) others
    → AreNew earlier (words ++ others)
new_behind earlier [] others first second = subst (λ l. AreNew l others) (append-nil earlier) second
new_behind earlier (word ∷ words) others first second = (
  first.0,
  new_behind (earlier ++ word ∷ []) words others first.1
      (subst (λ l. AreNew l others) (sym (append_assoc earlier (word ∷ []) words)) second),
)

-- the maps of parts and of one more
one_more : (earlier : List Part) (part : Part)
    → flat_map maps_in (earlier ++ part ∷ []) ≡ flat_map maps_in earlier ++ maps_in part
one_more earlier part =
    flat_map-append maps_in earlier (part ∷ []) ∙ ap (λ l. flat_map maps_in earlier ++ l) (append-nil (maps_in part))

-- a second line of points has another map
new_part : (whole earlier : List Part) (part : Part) → IsFaultless whole earlier part
    → AreNew (flat_map maps_in earlier) (maps_in part)
new_part whole earlier (atom at bytes from) fine = tt
new_part whole earlier (form at rule.PutPoints parts from) fine = (fine.once, tt)
new_part whole earlier (form at r parts from) fine = tt

new_maps : (whole earlier parts : List Part) → faults_behind whole earlier parts ≡ []
    → AreNew (flat_map maps_in earlier) (flat_map maps_in parts)
new_maps whole earlier [] none = tt
new_maps whole earlier (part ∷ later) none =
    let both = none_in_both (faults_of whole earlier part) (faults_behind whole (earlier ++ part ∷ []) later) none in
    new_behind (flat_map maps_in earlier) (maps_in part) (flat_map maps_in later)
    (new_part whole earlier part (faultless whole earlier part both.0))
    (subst (λ l. AreNew l (flat_map maps_in later)) (one_more earlier part)
    (new_maps whole (earlier ++ part ∷ []) later both.1))

-- NEW WORDS ARE THE FIRST OF THE DIFFERENT ONES

-- the same words stand among both
abbrev Alike : List (List ℕ) → List (List ℕ) → Type 0
Alike seen earlier = (word : List ℕ) → is_named word seen ≡ is_named word earlier

either_order : (a b : Bool) → (a || b) ≡ (b || (a || false))
either_order true true = refl
either_order true false = refl
either_order false true = refl
either_order false false = refl

-- also with one more, at either end
alike_more : (seen earlier : List (List ℕ)) (word : List ℕ) → Alike seen earlier → Alike (word ∷ seen) (earlier ++ word ∷ [])
alike_more seen earlier word alike other =
    ap (λ b. bytes_eq other word || b) (alike other)
    ∙ either_order (bytes_eq other word) (is_named other earlier)
    ∙ sym (list_any-append (bytes_eq other) earlier (word ∷ []))

new_first : (seen earlier words more : List (List ℕ)) → Alike seen earlier → AreNew earlier words
    → (rest : List (List ℕ)) × (different_from seen (words ++ more) ≡ words ++ rest)
new_first seen earlier [] more alike new = (different_from seen more, refl)
new_first seen earlier (word ∷ words) more alike new =
    let later = new_first (word ∷ seen) (earlier ++ word ∷ []) words more (alike_more seen earlier word alike) new.1 in (
      later.0,
      cond-false (is_named word seen) (different_from seen (words ++ more)) (word ∷ different_from (word ∷ seen) (words ++ more))
          (alike word ∙ new.0)
          ∙ ap (λ l. word ∷ l) later.1,
    )

-- a word's place is behind the words that it isn't among
place_or_len : (word : List ℕ) (words rest : List (List ℕ)) → is_named word words ≡ false
    → position_or_len (bytes_eq word) (words ++ word ∷ rest) ≡ length words
place_or_len word [] rest new =
    ap (λ b. cond (not b) (1 + position_or_len (bytes_eq word) rest) 0) ((bytes_eq-Decides word word).1 refl)
place_or_len word (other ∷ words) rest new =
    let both = or_parts (bytes_eq word other) (is_named word words) new in
    let later = place_or_len word words rest both.1 in
    ap (λ b. cond (not b) (1 + position_or_len (bytes_eq word) (words ++ word ∷ rest)) 0) both.0 ∙ omega (arith, later)

place_behind : (word : List ℕ) (words rest : List (List ℕ)) → is_named word words ≡ false
    → position (bytes_eq word) (words ++ word ∷ rest) ≡ Some (length words)
place_behind word words rest new =
    let all = words ++ word ∷ rest in
    let at = place_or_len word words rest new in
    let long = length-append words (word ∷ rest) in
    cond-true _ (Some (position_or_len (bytes_eq word) all)) None
    (lt-ltb (position_or_len (bytes_eq word) all) (length all) (omega (arith, at, long)))
    ∙ ap Some at

-- EACH IS IN TURN

turn_of : (maps rest : List (List ℕ)) (whole earlier : List Part) (part : Part) → IsFaultless whole earlier part
    → maps ≡ flat_map maps_in earlier ++ (maps_in part ++ rest) → IsInTurn maps earlier part
turn_of maps rest whole earlier (atom at bytes from) fine is = tt
turn_of maps rest whole earlier (form at rule.PutPoints parts from) fine is =
    ap (position (bytes_eq (word_in 2 parts))) is
    ∙ place_behind (word_in 2 parts) (flat_map maps_in earlier) rest fine.once
turn_of maps rest whole earlier (form at r parts from) fine is = tt

turns_of : (maps rest : List (List ℕ)) (whole earlier parts : List Part) → faults_behind whole earlier parts ≡ []
    → maps ≡ flat_map maps_in earlier ++ (flat_map maps_in parts ++ rest) → AreInTurn maps earlier parts
turns_of maps rest whole earlier [] none is = tt
turns_of maps rest whole earlier (part ∷ later) none is =
    let both = none_in_both (faults_of whole earlier part) (faults_behind whole (earlier ++ part ∷ []) later) none in
    let before = flat_map maps_in earlier in
    let behind = flat_map maps_in later ++ rest in
    let here : maps ≡ before ++ (maps_in part ++ behind) =
    is ∙ ap (λ l. before ++ l) (append_assoc (maps_in part) (flat_map maps_in later) rest) in (
      turn_of maps behind whole earlier part (faultless whole earlier part both.0) here,
      turns_of maps rest whole (earlier ++ part ∷ []) later both.1
          (here ∙ sym (append_assoc before (maps_in part) behind) ∙ ap (λ l. l ++ behind) (sym (one_more earlier part))),
    )

-- THE MAPS OF THE SETUP ARE MENTIONED FIRST

pub points_alone : (lines : Trees)
    → in_lines (λ line. []) points_map lines ≡ flat_map points_map (lines_with "put" "points" lines)
points_alone nil = refl
points_alone (cons line lines) =
    by (begins_with "create" "deck" line) (begins_with "put" "points" line) (lines_with "put" "points" lines)
    (points_alone lines)
  where
    by : (deck points : Bool) (later : List Tree) → in_lines (λ line. []) points_map lines ≡ flat_map points_map later
        → (cond deck [] [] ++ cond points (points_map line) []) ++ in_lines (λ line. []) points_map lines
        ≡ flat_map points_map (cond points (line ∷ later) later)
    by true true later same = ap (λ l. points_map line ++ l) same
    by true false later same = same
    by false true later same = ap (λ l. points_map line ++ l) same
    by false false later same = same

-- they are the first that the form mentions
pub maps_first : (tree : Tree) → faults symbol.Sheet tree ≡ []
    → (more : List (List ℕ)) × (map_mentions tree ≡ flat_map maps_in (parts_of tree) ++ more)
maps_first tree shaped =
    sheet_only (λ tree. (more : List (List ℕ)) × (map_mentions tree ≡ flat_map maps_in (parts_of tree) ++ more)) tree shaped
    (λ a b c d e f from to lines rest fits. (
      all_gathered map_word rest,
      ap (λ l. l ++ all_gathered map_word rest) (sym (maps_give a b c d e f from to lines rest fits ∙ points_alone lines)),
    ))

-- THE LAW: the maps of a form without a fault are numbered in turn.
pub maps_in_turn : (tree : Tree) → faults symbol.Sheet tree ≡ [] → second_faults tree ≡ []
    → AreInTurn (naming_of tree).names.maps [] (parts_of tree)
maps_in_turn tree shaped sound =
    let all = parts_of tree in
    let first = maps_first tree shaped in
    let new = new_first [] [] (flat_map maps_in all) first.0 (λ word. refl) (new_maps all [] all sound) in
    turns_of (different (map_mentions tree)) new.0 all [] all sound (ap different first.1 ∙ new.1)
