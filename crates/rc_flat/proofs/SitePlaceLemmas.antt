-- At the places of the stages around a choice site stages begin, and what is known of a machine there.
use Rattle.std.proofs.Common.{◌≡◌, ℕ, zero, suc, ◌≤◌, ◌<◌, ◌==◌, Bool, true, false, if◌then◌else◌, List, [], ◌∷◌, ◌++◌, length, drop, reverse, slice_get, slice_index_or, Option, Some, None, refl, sym, ap, ◌∙◌, subst, true≢false, arith}
use Rattle.std.specs.Prelude.{unwrap_or}
use Rattle.std.specs.List.{AllByRecursion, AllZip}
use Rattle.std.proofs.lemmas.List.{reverse-reverse}
use Rattle.std.proofs.lemmas.Grind.{reverse_onto}
use Rattle.std.proofs.lemmas.Option.{same_Some}
use Rattle.rc_sheet_spec.specs.Sheet.{Class, game_class, player_class, team_class, SheetItem, do_item, stage, choice, SheetItems, no_item, item, Sheet}
use Rattle.rc_sheet_spec.specs.Lists.{item_list}
use Rattle.rc_sheet_spec.specs.WellFormed.{Around, outside, in_stage, IsItem, AreItems, IsWellFormed}
use Rattle.rc_play_spec.specs.Control.{Control}
use Rattle.rc_play_spec.specs.Step.{Stage, Part, todo, round, turn, todos}
use Rattle.rc_play_spec.specs.Decision.{left_in_item, left_in, left_at, at_site}
use Rattle.rc_play_spec.specs.Path.{Path}
use Rattle.rc_play_spec.specs.Fits.{around, IsFrameOf, FitsSite}
use Rattle.rc_code.specs.Instruction.{Instruction, simple, if_true, so_often, one_by_one, do_all, begin_stage, offer, end_body}
use Rattle.rc_code.specs.Meaning.{items_from, first_stage, stage_at, behind_at, left_behind, left_by}
use Rattle.rc_code.specs.Meaning as meaning
use Rattle.rc_code.proofs.LeftLemmas.{first_there}
use Rattle.rc_flat.specs.Shallow.{AreShallow}
use Rattle.rc_flat.specs.Places.{IsStageAt, AreStages}
use Rattle.rc_play_spec.specs.Table.{Table}
use Rattle.rc_play_spec.specs.About.{About, menu_at}
use Rattle.rc_play_spec.proofs.FrameLemmas.{numbers_same}
use Rattle.rc_play_spec.proofs.SiteLemmas.{same_site}
use Rattle.rc_rules.specs.Machine.{CanDecide}
use Rattle.rc_code.specs.Instruction.{SitePlace, Code}
use Rattle.rc_code.specs.Laws.{SitesArePlaced}
use Rattle.rc_code.specs.Implements.{IsPlaced, path_to}
use Rattle.rc_code.specs.Stands.{StandsFor}
use Rattle.rc_flat.specs.Flat.{Flat, config_of, flat_from, IsInPlay, IsOffered}
use Rattle.rc_flat.specs.MarkedMoments.{IsInMatch}
use Rattle.rc_flat.proofs.ShallowLemmas.{site_shallow}

-- STAGES IN A SHEET AREN'T OF THE GAME'S CLASS

abbrev IsClassed : Class → Type 0
IsClassed game_class = ⊥
IsClassed player_class = Unit {0}
IsClassed team_class = Unit {0}

-- those that are open
abbrev AreClassed : List Part → Type 0
AreClassed [] = Unit {0}
AreClassed (todo i ∷ parts) = AreClassed parts
AreClassed (round s ∷ parts) = IsClassed s.class × AreClassed parts
AreClassed (turn s ∷ parts) = AreClassed parts

classed_behind : (items : List SheetItem) (parts : List Part) → AreClassed parts → AreClassed (todos items ++ parts)
classed_behind [] parts are = are
classed_behind (i ∷ items) parts are = classed_behind items parts are

classed_of : (items : List SheetItem) (parts : List Part) → AreClassed (todos items ++ parts) → AreClassed parts
classed_of [] parts are = are
classed_of (i ∷ items) parts are = classed_of items parts are

all_both : (xs ys : List (List Part)) → AllByRecursion AreClassed xs → AllByRecursion AreClassed ys → AllByRecursion AreClassed (xs ++ ys)
all_both [] ys are are' = are'
all_both (x ∷ xs) ys are are' = (are.0, all_both xs ys are.1 are')

one_if : (b : Bool) (parts : List Part) → AreClassed parts → AllByRecursion AreClassed (if b then parts ∷ [] else [])
one_if true parts are = (are, tt)
one_if false parts are = tt

mutual
  item_classed : (sheet : Sheet) (site : ℕ) (i : SheetItem) (rest : List Part) (within : Around) → IsItem sheet within i → AreClassed rest →
      AllByRecursion AreClassed (left_in_item site i rest)
  item_classed sheet site (do_item effects) rest within is are = tt
  item_classed sheet site (stage number game_class end body) rest within is are = absurd is
  item_classed sheet site (stage number player_class end body) rest within is are =
      let s : Stage = record { number = number; class = player_class; end = end; body = body } in
      items_classed sheet site body (turn s ∷ round s ∷ rest) (in_stage player_class within) is.2 (tt, are)
  item_classed sheet site (stage number team_class end body) rest within is are =
      let s : Stage = record { number = number; class = team_class; end = end; body = body } in
      items_classed sheet site body (turn s ∷ round s ∷ rest) (in_stage team_class within) is.2 (tt, are)
  item_classed sheet site (choice number alts) rest within is are = one_if (number == site) (todo (choice number alts) ∷ rest) are

  items_classed : (sheet : Sheet) (site : ℕ) (items : SheetItems) (rest : List Part) (within : Around) → AreItems sheet within items → AreClassed rest →
      AllByRecursion AreClassed (left_in site items rest)
  items_classed sheet site no_item rest within is are = tt
  items_classed sheet site (item i items) rest within is are =
      all_both (left_in_item site i (todos (item_list items) ++ rest)) (left_in site items rest)
      (item_classed sheet site i (todos (item_list items) ++ rest) within is.0 (classed_behind (item_list items) rest are))
      (items_classed sheet site items rest within is.1 are)

first_classed : (lists : List (List Part)) → AllByRecursion AreClassed lists → AreClassed (slice_index_or lists 0 [])
first_classed [] are = tt
first_classed (list ∷ lists) are = are.0

site_classed : (sheet : Sheet) (site : ℕ) → IsWellFormed sheet → AreClassed (left_at sheet site)
site_classed sheet site formed = first_classed (left_in site sheet.items []) (items_classed sheet site sheet.items [] outside formed.items tt)

past_all : {A : Type 0} (xs : List A) (n : ℕ) → slice_get xs n ≡ None → drop n xs ≡ []
past_all [] zero is = refl
past_all [] (suc n) is = refl
past_all (x ∷ xs) zero is = absurd (cc)
past_all (x ∷ xs) (suc n) is = past_all xs n is

-- and so one begins where such a stage is open
begins : (code : List Instruction) (place : ℕ) (o : Option Instruction) → slice_get code place ≡ o → IsClassed (stage_at code place).class → IsStageAt code place
begins code place None is classed = absurd (subst (λ (list : List Instruction). IsClassed (first_stage list).class) (past_all code place is) classed)
begins code place (Some (begin_stage number class end inside)) is classed = (number, class, end, inside, is)
begins code place (Some (simple e)) is classed = absurd (subst (λ (list : List Instruction). IsClassed (first_stage list).class) (first_there code place _ is) classed)
begins code place (Some (if_true test inside)) is classed = absurd (subst (λ (list : List Instruction). IsClassed (first_stage list).class) (first_there code place _ is) classed)
begins code place (Some (so_often count inside)) is classed = absurd (subst (λ (list : List Instruction). IsClassed (first_stage list).class) (first_there code place _ is) classed)
begins code place (Some (one_by_one domain bound inside)) is classed = absurd (subst (λ (list : List Instruction). IsClassed (first_stage list).class) (first_there code place _ is) classed)
begins code place (Some (do_all inside)) is classed = absurd (subst (λ (list : List Instruction). IsClassed (first_stage list).class) (first_there code place _ is) classed)
begins code place (Some (offer site alts blocks inside)) is classed = absurd (subst (λ (list : List Instruction). IsClassed (first_stage list).class) (first_there code place _ is) classed)
begins code place (Some end_body) is classed = absurd (subst (λ (list : List Instruction). IsClassed (first_stage list).class) (first_there code place _ is) classed)

begin_behind : (code : List Instruction) (inner : List ℕ) → AreClassed (left_behind code inner) → AreStages code inner
begin_behind code [] are = tt
begin_behind code (place ∷ inner) are =
    (begins code place (slice_get code place) refl are.0, begin_behind code inner (classed_of (behind_at code place) (left_behind code inner) are.1))

pub one_more : (code : List Instruction) (outer : List ℕ) (place : ℕ) → AreStages code outer → IsStageAt code place → AreStages code (outer ++ place ∷ [])
one_more code [] place are is = (is, tt)
one_more code (p ∷ outer) place are is = (are.0, one_more code outer place are.1 is)

turned : (code : List Instruction) (inner : List ℕ) → AreStages code inner → AreStages code (reverse inner)
turned code [] are = tt
turned code (p ∷ inner) are =
    subst (AreStages code) (sym (reverse_onto inner p [])) (one_more code (reverse inner) p (turned code inner are.1) are.0)

pub stages_around : (sheet : Sheet) (code : List Instruction) (site : ℕ) (path : Path) → IsWellFormed sheet → path.at_round ≡ false →
    meaning.left_in code path ≡ left_at sheet site → AreStages code path.outer
stages_around sheet code site path formed here left =
    let are = subst AreClassed (sym left ∙ ap (left_by code (reverse path.outer) path.next) here) (site_classed sheet site formed) in
    subst (AreStages code) (reverse-reverse path.outer)
    (turned code (reverse path.outer) (begin_behind code (reverse path.outer) (classed_of (items_from (drop path.next code)) (left_behind code (reverse path.outer)) are)))

-- A MACHINE AT A SITE

pub site_plays : (m : Flat) (site : ℕ) → IsWellFormed m.about.sheet → FitsSite m.about site m.control → m.place.at_round ≡ false →
    (config_of m).left ≡ left_at m.about.sheet site → m.control.turn ≤ m.about.turns → IsInPlay m
site_plays m site formed fits here left within =
    record {
      stands = record {
        stages = stages_around m.about.sheet m.code site m.place formed here left;
        at_stage = λ e. absurd (true≢false (sym e ∙ here));
      };
      frames = numbers_same m.about.sheet (around (config_of m).left) m.control.frames
          (subst (λ parts. AllZip (IsFrameOf m.about.sheet) (around parts) m.control.frames) (sym left) fits.frames);
      shallow = subst (λ parts. AreShallow parts) (sym left) (site_shallow m.about.sheet site formed);
      turn = within;
      counts = fits.counts;
    }

-- a match goes on at the place of a site
pub placed_match : (about : About) (code : Code) (site : ℕ) (table : Table) (control : Control) → IsWellFormed about.sheet →
    (placed : IsPlaced about.sheet code site) → FitsSite about site control → 0 < length (menu_at about site table control) →
    control.turn < about.turns → IsInMatch (flat_from about code.list (path_to placed.at) table control)
placed_match about code site table control formed placed fits some below =
    let m = flat_from about code.list (path_to placed.at) table control in
    record {
      play = site_plays m site formed fits refl placed.left (omega (arith, below));
      offered = λ other is.
          subst (IsOffered m) (same_site control.site site other fits.stands is)
          (record { here = refl; blocks = placed.blocks; inside = placed.inside; there = placed.there; some = some });
    }

-- and it stands at the site
pub placed_at : (about : About) (code : Code) (site : ℕ) (table : Table) (control : Control) (placed : IsPlaced about.sheet code site) →
    control.site ≡ Some site → config_of (flat_from about code.list (path_to placed.at) table control) ≡ at_site about table control
placed_at about code site table control placed stands =
    ap (λ (left : List Part). record { left = left; table = table; control = control })
    (placed.left ∙ ap (left_at about.sheet) (sym (ap (λ o. unwrap_or o 0) stands)))

-- the place that the table of sites has for a site, among few open stages
abbrev pub HasPlace : Code → ℕ → Type 0
HasPlace code site = (at : SitePlace) × (slice_get code.sites site ≡ Some at) × (length at.outer ≤ 63)

-- this is that place
abbrev pub IsPlaceOf : Code → ℕ → Path → Type 0
IsPlaceOf code site place = (at : SitePlace) × (slice_get code.sites site ≡ Some at) × (place ≡ path_to at)

-- at a decision
module _ (about : About) (code : Code) (table : Table) (control : Control) (laws : SitesArePlaced) (stands : StandsFor about.sheet code) (formed : IsWellFormed about.sheet)
    (decides : CanDecide about table control) where
  placed_here : IsPlaced about.sheet code decides.site
  placed_here = laws about.sheet code decides.site stands formed decides.fits.there

  pub decision_has : (site : ℕ) → control.site ≡ Some site → HasPlace code site
  decision_has site is =
      subst (HasPlace code) (same_site control.site decides.site site decides.fits.stands is) (placed_here.at, placed_here.has, placed_here.few)

  at_its_place : (place : Path) → IsPlaceOf code decides.site place → place ≡ path_to placed_here.at
  at_its_place place found = found.2 ∙ ap path_to (same_Some found.0 placed_here.at (sym found.1 ∙ placed_here.has))

  pub decision_match : (site : ℕ) (place : Path) → control.site ≡ Some site → IsPlaceOf code site place →
      IsInMatch (flat_from about code.list place table control) × (config_of (flat_from about code.list place table control) ≡ at_site about table control)
  decision_match site place is found =
      let found' = subst (λ n. IsPlaceOf code n place) (sym (same_site control.site decides.site site decides.fits.stands is)) found in
      subst (λ (p : Path). IsInMatch (flat_from about code.list p table control) × (config_of (flat_from about code.list p table control) ≡ at_site about table control))
      (sym (at_its_place place found')) (
        placed_match about code decides.site table control formed placed_here decides.fits decides.some decides.below,
        placed_at about code decides.site table control placed_here decides.fits.stands,
      )
