-- A choice found by a path is the one with its number, and what is left there is what the number fixes.
use Rattle.std.proofs.Common.{◌≡◌, ℕ, zero, suc, ◌+◌, ◌≤◌, ◌<◌, ◌==◌, Bool, true, false, if◌then◌else◌, List, [], ◌∷◌, ◌++◌, length, map, drop, slice_get, slice_index_or, unwrap_or, Option, Some, None, ◌⊎◌, inl, inr, refl, sym, ap, ◌∙◌, subst, length-append, arith, get_or}
use Rattle.std.specs.List.{range_with_len}
use Rattle.std.proofs.lemmas.List.{map-append}
use Rattle.std.proofs.lemmas.Bool.{eq-eqb, eqb-true, ne_eqb, cond-true}
use Rattle.rc_base.specs.Numbers.{below}
use Rattle.rc_sheet_spec.specs.Sheet.{SheetItem, do_item, stage, choice, SheetItems, no_item, item, Alt, Sheet}
use Rattle.rc_sheet_spec.specs.Lists.{item_list}
use Rattle.rc_sheet_spec.specs.Mentions.{sites_in, sites_in_item}
use Rattle.rc_sheet_spec.specs.WellFormed.{Around, IsAlt, AreAlts}
use Rattle.rc_play_spec.specs.Menu.{alts_in, alts_in_item, alts_at, menu_from}
use Rattle.rc_play_spec.specs.Step.{Stage, Part, todo, round, turn, todos}
use Rattle.rc_play_spec.specs.Decision.{left_in, left_in_item, left_at}
use Rattle.rc_play_spec.specs.Path.{Path, stage_at, stage_in, body_of, marks_of, within, left_here, left_of, next_item}
use Rattle.rc_play_spec.proofs.PathLemmas.{left-item}
use Rattle.rc_play_spec.specs.Control.{Frame}
use Rattle.rc_play_spec.specs.Table.{Table}
use Rattle.rc_play_spec.specs.About.{About, scene_at}

abbrev pub IsIn : {A : Type 0} → A → List A → Type 0
IsIn a [] = ⊥
IsIn a (b ∷ bs) = (a ≡ b) ⊎ IsIn a bs

pub IsIn-left : {A : Type 0} (a : A) (bs cs : List A) → IsIn a bs → IsIn a (bs ++ cs)
IsIn-left a [] cs is = absurd is
IsIn-left a (b ∷ bs) cs (inl is) = inl is
IsIn-left a (b ∷ bs) cs (inr is) = inr (IsIn-left a bs cs is)

pub IsIn-right : {A : Type 0} (a : A) (bs cs : List A) → IsIn a cs → IsIn a (bs ++ cs)
IsIn-right a [] cs is = is
IsIn-right a (b ∷ bs) cs is = inr (IsIn-right a bs cs is)

pub only_one : {A : Type 0} (a d : A) (bs : List A) → length bs ≤ 1 → IsIn a bs → slice_index_or bs 0 d ≡ a
only_one a d [] le is = absurd is
only_one a d (b ∷ []) le (inl is) = sym is
only_one a d (b ∷ []) le (inr is) = absurd is
only_one a d (b ∷ c ∷ bs) le is = absurd (omega arith)

-- the same over lists
abbrev left_in_list : ℕ → List SheetItem → List Part → List (List Part)
left_in_list site [] rest = []
left_in_list site (i ∷ items) rest = left_in_item site i (todos items ++ rest) ++ left_in_list site items rest

pub left_in-list : (site : ℕ) (items : SheetItems) (rest : List Part) → left_in site items rest ≡ left_in_list site (item_list items) rest
left_in-list site no_item rest = refl
left_in-list site (item i items) rest = ap (λ more. left_in_item site i (todos (item_list items) ++ rest) ++ more) (left_in-list site items rest)

pub none_not-some : {A : Type 0} (a : A) → None ≡ Some a → ⊥
none_not-some a is = cc

pub unwrap : {A : Type 0} (a b : A) → Some a ≡ Some b → a ≡ b
unwrap a b is = ap (λ o. unwrap_or o a) is

here : (site : ℕ) (alts : List Alt) (items : List SheetItem) (n : ℕ) (rest : List Part) → slice_get items n ≡ Some (choice site alts) →
    IsIn (todos (drop n items) ++ rest) (left_in_list site items rest)
here site alts [] n rest is = absurd (none_not-some _ is)
here site alts (x ∷ items) zero rest is =
    subst (λ y. IsIn (todo y ∷ (todos items ++ rest)) (left_in_item site y (todos items ++ rest) ++ left_in_list site items rest))
    (sym (unwrap x (choice site alts) is))
    (IsIn-left _ (left_in_item site (choice site alts) (todos items ++ rest)) (left_in_list site items rest)
    (subst (IsIn (todo (choice site alts) ∷ (todos items ++ rest)))
    (sym (cond-true (site == site) ((todo (choice site alts) ∷ (todos items ++ rest)) ∷ []) [] (eq-eqb site site refl)))
    (inl refl)))
here site alts (x ∷ items) (suc n) rest is = IsIn-right _ (left_in_item site x (todos items ++ rest)) _ (here site alts items n rest is)

below_first : (site : ℕ) (x : SheetItem) (rest : List Part) (left : List Part) (s : Stage) → stage_in (Some x) ≡ Some s →
    IsIn left (left_in_list site (item_list s.body) (turn s ∷ round s ∷ rest)) → IsIn left (left_in_item site x rest)
below_first site (do_item effects) rest left s is inside = absurd (none_not-some s is)
below_first site (choice number alts) rest left s is inside = absurd (none_not-some s is)
below_first site (stage number class end body) rest left s is inside =
    let t : Stage = record { number = number; class = class; end = end; body = body } in
    subst (IsIn left) (sym (left_in-list site body (turn t ∷ round t ∷ rest)))
    (subst (λ (u : Stage). IsIn left (left_in_list site (item_list u.body) (turn u ∷ round u ∷ rest))) (sym (unwrap t s is)) inside)

below_stage : (site : ℕ) (items : List SheetItem) (n : ℕ) (rest : List Part) (left : List Part) (s : Stage) → stage_at items n ≡ Some s →
    IsIn left (left_in_list site (item_list s.body) (turn s ∷ round s ∷ todos (drop (n + 1) items) ++ rest)) → IsIn left (left_in_list site items rest)
below_stage site [] n rest left s is inside = absurd (none_not-some s is)
below_stage site (x ∷ items) zero rest left s is inside =
    IsIn-left left (left_in_item site x (todos items ++ rest)) _ (below_first site x (todos items ++ rest) left s is inside)
below_stage site (x ∷ items) (suc n) rest left s is inside =
    let more : suc n + 1 ≡ suc (n + 1) = omega arith in
    IsIn-right left (left_in_item site x (todos items ++ rest)) _
    (below_stage site items n rest left s is
    (subst (λ k. IsIn left (left_in_list site (item_list s.body) (turn s ∷ round s ∷ todos (drop k (x ∷ items)) ++ rest))) more inside))

through : (site : ℕ) (items : List SheetItem) (i : ℕ) (rest left : List Part) (o : Option Stage) → stage_at items i ≡ o →
    IsIn left (left_in_list site (body_of o) (marks_of o ++ todos (drop (i + 1) items) ++ rest)) → IsIn left (left_in_list site items rest)
through site items i rest left None is inside = absurd inside
through site items i rest left (Some s) is inside = below_stage site items i rest left s is inside

-- what is left at a choice that a path leads to is among what its number fixes
found : (site : ℕ) (alts : List Alt) (items : List SheetItem) (outer : List ℕ) (n : ℕ) (rest : List Part) →
    slice_get (within items outer rest).0 n ≡ Some (choice site alts) →
    IsIn (left_here (within items outer rest) n false) (left_in_list site items rest)
found site alts items [] n rest is = here site alts items n rest is
found site alts items (i ∷ outer) n rest is =
    through site items i rest (left_here (within items (i ∷ outer) rest) n false) (stage_at items i) refl
    (found site alts (body_of (stage_at items i)) outer n (marks_of (stage_at items i) ++ todos (drop (i + 1) items) ++ rest) is)

-- how often a number stands among others
abbrev pub one_if : Bool → ℕ
one_if true = 1
one_if false = 0

abbrev pub times : ℕ → List ℕ → ℕ
times n [] = 0
times n (m ∷ ms) = one_if (m == n) + times n ms

times-append : (n : ℕ) (ms ks : List ℕ) → times n (ms ++ ks) ≡ times n ms + times n ks
times-append n [] ks = omega arith
times-append n (m ∷ ms) ks = let rest = times-append n ms ks in omega arith

length-if : {A : Type 0} (b : Bool) (a : A) → length (if b then a ∷ [] else []) ≡ one_if b + 0
length-if true a = refl
length-if false a = refl

mutual
  count_item : (site : ℕ) (i : SheetItem) (rest : List Part) → length (left_in_item site i rest) ≡ times site (sites_in_item i)
  count_item site (do_item effects) rest = refl
  count_item site (stage number class end body) rest =
      let t : Stage = record { number = number; class = class; end = end; body = body } in
      count_items site body (turn t ∷ round t ∷ rest)
  count_item site (choice number alts) rest = length-if (number == site) (todo (choice number alts) ∷ rest)

  pub count_items : (site : ℕ) (items : SheetItems) (rest : List Part) → length (left_in site items rest) ≡ times site (sites_in items)
  count_items site no_item rest = refl
  count_items site (item i items) rest =
      length-append (left_in_item site i (todos (item_list items) ++ rest)) (left_in site items rest)
      ∙ ap (λ k. k + length (left_in site items rest)) (count_item site i (todos (item_list items) ++ rest))
      ∙ ap (λ k. times site (sites_in_item i) + k) (count_items site items rest)
      ∙ sym (times-append site (sites_in_item i) (sites_in items))

-- numbers that are counted stand once at most
times-above : (n a len : ℕ) → n < a → times n (range_with_len a len) ≡ 0
times-above n a zero less = refl
times-above n a (suc len) less =
    let other = ap one_if (ne_eqb a n (omega arith)) in
    let rest = times-above n (a + 1) len (omega arith) in
    omega arith

times-first : (n a len : ℕ) (b : Bool) → (a == n) ≡ b → times n (range_with_len (a + 1) len) ≤ 1 → times n (range_with_len a (suc len)) ≤ 1
times-first n a len true is le =
    let same = eqb-true a n is in
    let rest = times-above n (a + 1) len (omega arith) in
    let one = ap one_if is in
    omega arith
times-first n a len false is le = let none = ap one_if is in omega arith

pub times-once : (n a len : ℕ) → times n (range_with_len a len) ≤ 1
times-once n a zero = omega arith
times-once n a (suc len) = times-first n a len (a == n) refl (times-once n (a + 1) len)

-- a counted number is below the end
times-first-below : (n a len : ℕ) (b : Bool) → (a == n) ≡ b → (0 < times n (range_with_len (a + 1) len) → n < a + 1 + len) →
    0 < times n (range_with_len a (suc len)) → n < a + suc len
times-first-below n a len true is rest some = let same = eqb-true a n is in omega arith
times-first-below n a len false is rest some =
    let none = ap one_if is in
    let more = rest (omega arith) in
    omega arith

times-below : (n a len : ℕ) → 0 < times n (range_with_len a len) → n < a + len
times-below n a zero some = absurd (omega (arith, some))
times-below n a (suc len) some = times-first-below n a len (a == n) refl (times-below n (a + 1) len) some

-- a site where something is left is one of the sheet
some_lefts : (lefts : List (List Part)) (first : Part) (rest : List Part) → slice_index_or lefts 0 [] ≡ first ∷ rest → 0 < length lefts
some_lefts [] first rest is = absurd (cc)
some_lefts (left ∷ lefts) first rest is = omega arith

pub left_at_there : (sheet : Sheet) (site : ℕ) (first : Part) (rest : List Part) → sites_in sheet.items ≡ below (length (sites_in sheet.items)) →
    left_at sheet site ≡ first ∷ rest → site < length (sites_in sheet.items)
left_at_there sheet site first rest numbered is =
    let count = count_items site sheet.items [] ∙ ap (times site) numbered in
    let some = subst (λ k. 0 < k) count (some_lefts (left_in site sheet.items []) first rest is) in
    let less = times-below site 0 (length (sites_in sheet.items)) some in
    omega (arith, less)

-- the number of a choice fixes what is left at it
pub left_at_found : (sheet : Sheet) (site : ℕ) (alts : List Alt) (path : Path) →
    sites_in sheet.items ≡ below (length (sites_in sheet.items)) → path.at_round ≡ false →
    next_item (item_list sheet.items) path ≡ Some (choice site alts) → left_at sheet site ≡ left_of (item_list sheet.items) path
left_at_found sheet site alts path numbered at_body is =
    let inside = found site alts (item_list sheet.items) path.outer path.next [] is in
    let once = times-once site 0 (length (sites_in sheet.items)) in
    let few : length (left_in site sheet.items []) ≤ 1 =
    subst (λ k. k ≤ 1) (sym (count_items site sheet.items [] ∙ ap (times site) numbered)) once in
    only_one (left_here (within (item_list sheet.items) path.outer []) path.next false) [] (left_in site sheet.items []) few
    (subst (IsIn _) (sym (left_in-list site sheet.items [])) inside)
    ∙ sym (ap (left_here (within (item_list sheet.items) path.outer []) path.next) at_body)

-- the alternatives of a choice that stands first
abbrev pub first_alts : List Part → List Alt
first_alts [] = []
first_alts (todo (do_item effects) ∷ rest) = []
first_alts (todo (stage number class end body) ∷ rest) = []
first_alts (todo (choice site alts) ∷ rest) = alts
first_alts (round s ∷ rest) = []
first_alts (turn s ∷ rest) = []

one_choice : (b : Bool) (number : ℕ) (alts : List Alt) (rest : List Part) →
    map first_alts (if b then (todo (choice number alts) ∷ rest) ∷ [] else []) ≡ (if b then alts ∷ [] else [])
one_choice true number alts rest = refl
one_choice false number alts rest = refl

mutual
  alts_of_item : (site : ℕ) (i : SheetItem) (rest : List Part) → map first_alts (left_in_item site i rest) ≡ alts_in_item site i
  alts_of_item site (do_item effects) rest = refl
  alts_of_item site (stage number class end body) rest =
      let t : Stage = record { number = number; class = class; end = end; body = body } in
      alts_of_items site body (turn t ∷ round t ∷ rest)
  alts_of_item site (choice number alts) rest = one_choice (number == site) number alts rest

  alts_of_items : (site : ℕ) (items : SheetItems) (rest : List Part) → map first_alts (left_in site items rest) ≡ alts_in site items
  alts_of_items site no_item rest = refl
  alts_of_items site (item i items) rest =
      map-append first_alts (left_in_item site i (todos (item_list items) ++ rest)) (left_in site items rest)
      ∙ ap (λ more. more ++ map first_alts (left_in site items rest)) (alts_of_item site i (todos (item_list items) ++ rest))
      ∙ ap (λ more. alts_in_item site i ++ more) (alts_of_items site items rest)

first_mapped : (lefts : List (List Part)) → slice_index_or (map first_alts lefts) 0 [] ≡ first_alts (slice_index_or lefts 0 [])
first_mapped [] = refl
first_mapped (left ∷ lefts) = refl

-- the alternatives at a site are those that stand first there
pub alts_at_left : (sheet : Sheet) (site : ℕ) → alts_at sheet site ≡ first_alts (left_at sheet site)
alts_at_left sheet site =
    ap (λ choices. slice_index_or choices 0 []) (sym (alts_of_items site sheet.items [])) ∙ first_mapped (left_in site sheet.items [])

-- and so the number of a choice fixes its alternatives
pub alts_at_found : (sheet : Sheet) (site : ℕ) (alts : List Alt) (path : Path) →
    sites_in sheet.items ≡ below (length (sites_in sheet.items)) → path.at_round ≡ false →
    next_item (item_list sheet.items) path ≡ Some (choice site alts) → alts_at sheet site ≡ alts
alts_at_found sheet site alts path numbered at_body is =
    alts_at_left sheet site
    ∙ ap first_alts (left_at_found sheet site alts path numbered at_body is ∙ left-item (item_list sheet.items) path (choice site alts) at_body is)

-- the site of a control is one
pub same_site : (o : Option ℕ) (site other : ℕ) → o ≡ Some site → o ≡ Some other → site ≡ other
same_site o site other is is' = ap (λ p. unwrap_or p 0) (sym is ∙ is')

-- a menu that has an item is one of alternatives
pub some_alts : (about : About) (table : Table) (frames : List Frame) (alts : List Alt) →
    0 < length (menu_from (scene_at about table frames) alts) → 0 < length alts
some_alts about table frames [] some = some
some_alts about table frames (alt ∷ alts) some = omega arith

pub alt_among : (sheet : Sheet) (around : Around) (alts : List Alt) → AreAlts sheet around alts →
    (i : ℕ) (alt : Alt) → i < length alts →
    alt ≡ get_or alts i alt → IsAlt sheet around alt
alt_among sheet around [] are i alt lt is = absurd (omega (arith, lt))
alt_among sheet around (a ∷ alts) are zero alt lt is = subst (IsAlt sheet around) (sym is) are.0
alt_among sheet around (a ∷ alts) are (suc i) alt lt is = alt_among sheet around alts are.1 i alt (omega (arith, lt)) is
