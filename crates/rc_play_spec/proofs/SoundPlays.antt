-- Wherever a match of a well formed sheet stands, its table is sound.
use Rattle.std.proofs.Common.{◌≡◌, ℕ, zero, suc, ◌<◌, nat_le, Bool, true, false, List, [], ◌∷◌, get_or, Some, sym, ap, subst, arith}
use Rattle.std.specs.List.{AllByRecursion}
use Rattle.std.specs.List.Sorted.{IsPermutation}
use Rattle.rc_base.specs.Numbers.{below}
use Rattle.rc_deck.proofs.EachLemmas.{append_each}
use Rattle.rc_sheet_spec.specs.Sheet.{Class, game_class, player_class, team_class, Test, Alt, do_alt, if_alt, any_alt, do_item, stage, choice, SheetItems, no_item, item}
use Rattle.rc_sheet_spec.specs.Naming.{sort_of}
use Rattle.rc_sheet_spec.specs.Lists.{item_list}
use Rattle.rc_sheet_spec.specs.WellFormed.{Around, outside, behind, in_stage, AreEffects, IsAlt, AreAlts, IsItem, AreItems, IsWellFormed}
use Rattle.rc_play_spec.specs.Control.{Control}
use Rattle.rc_play_spec.specs.Shape.{Shape, shape_of}
use Rattle.rc_play_spec.specs.Table.{Table, IsSound}
use Rattle.rc_play_spec.specs.Bound.{HasHomes}
use Rattle.rc_play_spec.specs.Menu.{Item, menu_from, alt_in, effects_of, bindings_of}
use Rattle.rc_play_spec.specs.About.{About, scene_at}
use Rattle.rc_play_spec.specs.Effects.{Dealing, Point}
use Rattle.rc_play_spec.specs.Step.{Stage, Part, todo, round, turn, todos, Config, at_menu, at_round, first_step, start}
use Rattle.rc_play_spec.specs.Stop.{Stopped}
use Rattle.rc_play_spec.specs.Decision.{choose_first}
use Rattle.rc_play_spec.specs.Play.{reached}
use Rattle.rc_play_spec.proofs.StopFacts.{Of, Of-if}
use Rattle.rc_play_spec.proofs.KeptLemmas.{There, reached_holds}
use Rattle.rc_play_spec.proofs.CardLemmas.{item_binds}
use Rattle.rc_play_spec.proofs.EffectLemmas.{there, all_sound}
use Rattle.rc_play_spec.proofs.OpeningLemmas.{sheet_homes, opening_sound}

module _ {S : Type 0} (about : About) (dealing : Dealing S) (fits : about.shape ≡ shape_of about.sheet) (formed : IsWellFormed about.sheet)
    (orders : (k : S) (size : ℕ) → IsPermutation (below size) (dealing.order k size)) where
  -- what is left to run is of a well formed sheet
  abbrev IsPart : Part → Type 0
  IsPart (todo i) = (around : Around) × IsItem about.sheet around i
  IsPart (round s) = (around : Around) × AreItems about.sheet around s.body
  IsPart (turn s) = Unit {0}

  abbrev AreParts : List Part → Type 0
  AreParts parts = AllByRecursion IsPart parts

  -- and the table is sound
  abbrev Holds : Config → Type 0
  Holds c = AreParts c.left × IsSound about.shape c.table

  item_parts : (around : Around) (items : SheetItems) → AreItems about.sheet around items → AreParts (todos (item_list items))
  item_parts around no_item is = tt
  item_parts around (item i items) is = ((around, is.0), item_parts around items is.1)

  stage_parts : (around : Around) (number : ℕ) (class : Class) (end : Test) (body : SheetItems) → IsItem about.sheet around (stage number class end body) →
      (around' : Around) × AreItems about.sheet around' body
  stage_parts around number game_class end body is = absurd is
  stage_parts around number player_class end body is = (in_stage player_class around, is.2)
  stage_parts around number team_class end body is = (in_stage team_class around, is.2)

  menu_holds : (k : S) (site : ℕ) (alts : List Alt) (rest : List Part) (table : Table) (control : Control) (items : List Item) →
      IsPart (todo (choice site alts)) → AreParts rest → IsSound about.shape table → Of Holds (There Holds) (at_menu about dealing k site alts rest table control items)
  menu_holds k site alts rest table control [] is parts sound = (parts, sound)
  menu_holds k site alts rest table control (first ∷ items) is parts sound =
      Of-if Holds (There Holds) (nat_le about.turns control.turn) _ _ (λ e. ((is, parts), sound)) (λ e. ((is, parts), sound))

  round_holds : (k : S) (s : Stage) (rest : List Part) (table : Table) (control : Control) (b : Bool) → IsPart (round s) → AreParts rest →
      IsSound about.shape table → Of Holds (There Holds) (at_round about dealing k s rest table control b)
  round_holds k s rest table control true is parts sound = (parts, sound)
  round_holds k s rest table control false is parts sound =
      Of-if Holds (There Holds) (nat_le about.turns control.turn) _ _ (λ e. ((is, parts), sound))
      (λ e. (append_each IsPart (todos (item_list s.body)) (turn s ∷ round s ∷ rest) (item_parts is.0 s.body is.1) (tt, (is, parts)), sound))

  first_holds : (k : S) (left : List Part) (table : Table) (control : Control) → AreParts left → IsSound about.shape table →
      Of Holds (There Holds) (first_step about dealing k left table control)
  first_holds k [] table control parts sound = (tt, sound)
  first_holds k (todo (do_item effects) ∷ rest) table control parts sound =
      (parts.1, all_sound about dealing fits orders parts.0.0 [] tt effects parts.0.1.1 (record { table = table; frames = control.frames; dealer = k }) sound)
  first_holds k (todo (stage number class end body) ∷ rest) table control parts sound =
      ((stage_parts parts.0.0 number class end body parts.0.1, parts.1), sound)
  first_holds k (todo (choice site alts) ∷ rest) table control parts sound =
      menu_holds k site alts rest table control (menu_from (scene_at about table control.frames) alts) parts.0 parts.1 sound
  first_holds k (round s ∷ rest) table control parts sound = round_holds k s rest table control _ parts.0 parts.1 sound
  first_holds k (turn s ∷ rest) table control parts sound = (parts.1, sound)

  -- the effects of an alternative
  alt_formed : (around : Around) (alt : Alt) → IsAlt about.sheet around alt → (around' : Around) × AreEffects about.sheet around' (effects_of alt)
  alt_formed around (do_alt effects) is = (around, is.1)
  alt_formed around (if_alt guard effects) is = (around, is.2)
  alt_formed around (any_alt domain bound alt) is = alt_formed (behind about.sheet around bound (sort_of domain)) alt is.2

  one_formed : (around : Around) (alts : List Alt) → AreAlts about.sheet around alts → (n : ℕ) →
      (around' : Around) × AreEffects about.sheet around' (effects_of (alt_in alts n))
  one_formed around [] is n = (around, tt)
  one_formed around (alt ∷ alts) is zero = alt_formed around alt is.0
  one_formed around (alt ∷ alts) is (suc n) = one_formed around alts is.1 n

  some_players : 0 < about.shape.players
  some_players = let e = ap (λ (s : Shape). s.players) fits in let some = formed.limits.some_players in omega (arith, e, some)

  choice_first : (k : S) (x : ℕ) (left : List Part) (table : Table) (control : Control) → AreParts left → IsSound about.shape table →
      Of Holds (There Holds) (choose_first about dealing k x left table control)
  choice_first k x [] table control parts sound = (parts, sound)
  choice_first k x (todo (do_item effects) ∷ rest) table control parts sound = (parts, sound)
  choice_first k x (todo (stage number class end body) ∷ rest) table control parts sound = (parts, sound)
  choice_first k x (todo (choice site alts) ∷ rest) table control parts sound =
      let scene = scene_at about table control.frames in
      let chosen = get_or (menu_from scene alts) x (record { alt = 0; spots = [] }) in
      let alt = alt_in alts chosen.alt in
      let now : Point S = record { table = table; frames = control.frames; dealer = k } in
      let formed = one_formed parts.0.0 alts parts.0.1.2 chosen.alt in
      let vars = bindings_of scene [] alt chosen.spots in (
        parts.1,
        all_sound about dealing fits orders formed.0 vars
            (item_binds about.shape scene (there about dealing fits orders now sound) (ap (λ (s : Shape). s.players) fits) some_players [] tt alt chosen.spots)
            (effects_of alt) formed.1 now sound,
      )
  choice_first k x (round s ∷ rest) table control parts sound = (parts, sound)
  choice_first k x (turn s ∷ rest) table control parts sound = (parts, sound)

  start_holds : Holds (start about)
  start_holds = (
    item_parts outside about.sheet.items formed.items,
    opening_sound about.shape (subst HasHomes (sym fits) (sheet_homes about.sheet formed)),
  )

  pub reached_sound : (items : List ℕ) (k : S) (at : Stopped S) → reached about dealing items k ≡ Some at → IsSound about.shape at.config.table
  reached_sound items k at is =
      (reached_holds about dealing Holds (λ k c holds. first_holds k c.left c.table c.control holds.0 holds.1)
      (λ k x c below holds. choice_first k x c.left c.table c.control holds.0 holds.1) start_holds items k at is).1
