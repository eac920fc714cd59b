-- Machines at the start, at a site, and at a decision.
use Rattle.std.proofs.Common.{◌≡◌, ℕ, ◌≤◌, ◌<◌, Bool, true, false, List, [], ◌∷◌, ◌++◌, length, replicate, ◌⊎◌, inl, inr, Option, Some, None, refl, sym, ap, ◌∙◌, subst, append-nil, arith}
use Rattle.std.specs.List.{AllZip}
use Rattle.std.proofs.lemmas.List.Elements.{All-from_recursion}
use Rattle.rc_deck.proofs.EachLemmas.{past_end}
use Rattle.rc_sheet_spec.specs.Sheet.{Alt, SheetItem, choice}
use Rattle.rc_sheet_spec.specs.Lists.{item_list}
use Rattle.rc_play_spec.specs.Control.{Control}
use Rattle.rc_play_spec.specs.Table.{Table, opening}
use Rattle.rc_play_spec.specs.About.{About, scene_at}
use Rattle.rc_play_spec.specs.Menu.{alts_at, menu_from}
use Rattle.rc_sheet_spec.specs.WellFormed.{IsWellFormed}
use Rattle.rc_play_spec.specs.Step.{Part, todo, round, turn, todos, Stop, decide, is_done, is_limit, start}
use Rattle.rc_play_spec.specs.Path.{Path}
use Rattle.rc_play_spec.specs.Decision.{left_at}
use Rattle.rc_play_spec.specs.Fits.{around, HasFrames, IsFrameOf, FitsSite, IsDecision, IsAtStop}
use Rattle.rc_rules.specs.Machine.{IsWhereItStops}
use Rattle.rc_play_spec.proofs.PathLemmas.{left-item, left-round, turn_left, end_left}
use Rattle.rc_play_spec.proofs.FrameLemmas.{start_frames, numbers_same}
use Rattle.rc_play_spec.proofs.SiteLemmas.{alts_at_found}
use Rattle.rc_play_spec.proofs.ControlLemmas.{zeros}
use Rattle.rc_plain.specs.Paths.{ArePlaces, IsPath, item_at}
use Rattle.rc_plain.specs.Plain.{Plain, config_of, IsInPlay}
use Rattle.rc_plain.proofs.PathLemmas.{all_but_last}

-- AT THE START

abbrev pub at_start : About → Plain
at_start about =
    record {
      about = about;
      path = record { outer = []; next = 0; at_round = false };
      table = opening about.shape;
      control = record { site = None; frames = []; turn = 0; made = replicate about.sheet.players 0 };
    }

pub starts : (about : About) → config_of (at_start about) ≡ start about
starts about =
    ap (λ left. record { left = left; table = opening about.shape; control = record { site = None; frames = []; turn = 0; made = replicate about.sheet.players 0 } })
    (append-nil (todos (item_list about.sheet.items)))

pub start_plays : (about : About) → IsInPlay (at_start about)
start_plays about =
    record {
      stands = record { places = tt; at_stage = λ e. absurd (cc) };
      frames = subst HasFrames (sym (starts about)) (start_frames about);
      turn = omega arith;
      counts = All-from_recursion (λ m. m ≤ 0) (replicate about.sheet.players 0) (zeros about.sheet.players 0);
    }

-- AT A SITE

pub site_plays : (m : Plain) (site : ℕ) → IsPath m.about.sheet m.path → FitsSite m.about site m.control → left_at m.about.sheet site ≡ (config_of m).left →
    m.control.turn ≤ m.about.turns → IsInPlay m
site_plays m site is fits left within =
    record {
      stands = is;
      frames = numbers_same m.about.sheet (around (config_of m).left) m.control.frames
          (subst (λ parts. AllZip (IsFrameOf m.about.sheet) (around parts) m.control.frames) left fits.frames);
      turn = within;
      counts = fits.counts;
    }

-- AT A DECISION

abbrev first_item : List Part → Option SheetItem
first_item [] = None
first_item (todo i ∷ parts) = Some i
first_item (round s ∷ parts) = None
first_item (turn s ∷ parts) = None

last_place : (outer : List ℕ) → (outer ≡ []) ⊎ ((before : List ℕ) × (n : ℕ) × (outer ≡ before ++ n ∷ []))
last_place [] = inl refl
last_place (i ∷ outer) = more (last_place outer) where
  more : (outer ≡ []) ⊎ ((before : List ℕ) × (n : ℕ) × (outer ≡ before ++ n ∷ [])) → (i ∷ outer ≡ []) ⊎ ((before : List ℕ) × (n : ℕ) × (i ∷ outer ≡ before ++ n ∷ []))
  more (inl is) = inr ([], i, ap (λ rest. i ∷ rest) is)
  more (inr is) = inr (i ∷ is.0, is.1, ap (λ rest. i ∷ rest) is.2)

none_left : (m : Plain) → IsPath m.about.sheet m.path → m.path.at_round ≡ false → item_at m.about.sheet m.path ≡ None → first_item (config_of m).left ≡ None
none_left m is here none = by_end (last_place m.path.outer) where
  by_end : (m.path.outer ≡ []) ⊎ ((before : List ℕ) × (n : ℕ) × (m.path.outer ≡ before ++ n ∷ [])) → first_item (config_of m).left ≡ None
  by_end (inl whole) =
      ap first_item (end_left (item_list m.about.sheet.items) m.path.outer m.path.next m.path.at_round whole here (past_end _ m.path.next none))
  by_end (inr last) =
      let back = all_but_last (item_list m.about.sheet.items) last.0 last.1 (subst (ArePlaces (item_list m.about.sheet.items)) last.2 is.places) in
      ap first_item
      (turn_left (item_list m.about.sheet.items) m.path.outer last.0 last.1 m.path.next m.path.at_round back.1 last.2 here back.2 (past_end _ m.path.next none))

-- the item that stands first is the one to which the path leads
pub first_is_next : (m : Plain) → IsPath m.about.sheet m.path → (i : SheetItem) (rest : List Part) → (config_of m).left ≡ todo i ∷ rest →
    (m.path.at_round ≡ false) × (item_at m.about.sheet m.path ≡ Some i)
first_is_next m is i rest first = by_round m.path.at_round refl where
  by_item : (o : Option SheetItem) → m.path.at_round ≡ false → item_at m.about.sheet m.path ≡ o → item_at m.about.sheet m.path ≡ Some i
  by_item None here at = absurd (let e = sym (none_left m is here at) ∙ ap first_item first in cc)
  by_item (Some j) here at =
      at ∙ ap first_item (sym (left-item (item_list m.about.sheet.items) m.path j here at)) ∙ ap first_item first

  by_round : (b : Bool) → m.path.at_round ≡ b → (m.path.at_round ≡ false) × (item_at m.about.sheet m.path ≡ Some i)
  by_round true at =
      let s = is.at_stage at in
      absurd (let e = ap first_item (sym (left-round (item_list m.about.sheet.items) m.path s.0 at s.1)) ∙ ap first_item first in cc)
  by_round false at = (at, by_item (item_at m.about.sheet m.path) at refl)

-- what is known of a decision
pub record AtDecision (m : Plain) (site : ℕ) : Type 0 where
  pub here : m.path.at_round ≡ false
  pub alts : List Alt
  pub there : item_at m.about.sheet m.path ≡ Some (choice site alts)
  pub same : alts_at m.about.sheet site ≡ alts

abbrev alts_of : Option SheetItem → List Alt
alts_of (Some (choice site alts)) = alts
alts_of other = []

same_alts : (site : ℕ) (alts alts' : List Alt) → Some (choice site alts) ≡ Some (choice site alts') → alts ≡ alts'
same_alts site alts alts' is = ap alts_of is

pub at_decision : (m : Plain) → IsPath m.about.sheet m.path → IsWellFormed m.about.sheet → (seat site : ℕ) → IsDecision m.about seat site (config_of m) →
    AtDecision m site
at_decision m is formed seat site decision =
    let next = first_is_next m is (choice site decision.alts) decision.rest decision.first in
    record {
      here = next.0;
      alts = decision.alts;
      there = next.1;
      same = alts_at_found m.about.sheet site decision.alts m.path formed.numbered.sites next.0 next.1;
    }

-- where a machine stops at a decision, something is offered
pub stands_there : (m : Plain) → IsPath m.about.sheet m.path → IsWellFormed m.about.sheet → (stop : Stop) → IsAtStop m.about stop (config_of m) →
    IsWhereItStops m.about stop (config_of m)
stands_there m is formed (decide seat site) there =
    let at = at_decision m is formed seat site there in
    let scene = scene_at m.about m.table m.control.frames in
    let left = ap first_item (sym (left-item (item_list m.about.sheet.items) m.path (choice site at.alts) at.here at.there) ∙ there.first) in
    record {
      decision = there;
      offered = subst (λ alts. 0 < length (menu_from scene alts)) (sym (at.same ∙ same_alts site at.alts there.alts left)) there.some;
    }
stands_there m is formed is_done there = tt
stands_there m is formed is_limit there = tt

-- a machine of these parts at the start
pub start_ready : (about : About) (path : Path) (table : Table) (control : Control) → path ≡ (at_start about).path → table ≡ (at_start about).table →
    control ≡ (at_start about).control →
    IsInPlay (record { about = about; path = path; table = table; control = control })
    × (config_of (record { about = about; path = path; table = table; control = control }) ≡ start about)
start_ready about path table control path_is table_is control_is =
    let same : at_start about ≡ record { about = about; path = path; table = table; control = control } =
    ap (λ (p : Path). record { about = about; path = p; table = opening about.shape; control = (at_start about).control }) (sym path_is)
    ∙ ap (λ (t : Table). record { about = about; path = path; table = t; control = (at_start about).control }) (sym table_is)
    ∙ ap (λ (c : Control). record { about = about; path = path; table = table; control = c }) (sym control_is) in
    (subst IsInPlay same (start_plays about), sym (ap config_of same) ∙ starts about)
