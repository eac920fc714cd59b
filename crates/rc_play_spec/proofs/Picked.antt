-- The choices of a match are in the ranges of their lines.
use Rattle.std.proofs.Common.{◌≡◌, ℕ, ◌≤◌, ◌<◌, List, [], ◌∷◌, length, get_or, take, map, Some, sym, ap, ◌∙◌, subst, arith, append-nil}
use Rattle.std.specs.Prelude.{All}
use Rattle.std.specs.List.{AllByRecursion}
use Rattle.std.proofs.lemmas.List.{length-map, length-take, length-replicate}
use Rattle.std.proofs.lemmas.List.Elements.{recursion_from_All}
use Rattle.std.proofs.lemmas.Option.{same_Some, slice_get-get_or}
use Rattle.rc_base.specs.Transcript.{Pick}
use Rattle.rc_deck.proofs.EachLemmas.{append_each}
use Rattle.rc_sheet_spec.specs.Sheet.{player_class}
use Rattle.rc_sheet_spec.specs.Lists.{item_list}
use Rattle.rc_sheet_spec.specs.Mentions.{sites_in}
use Rattle.rc_play_spec.specs.Lines.{chosen, IsInRange}
use Rattle.rc_play_spec.specs.Control.{Control}
use Rattle.rc_play_spec.specs.Table.{Table}
use Rattle.rc_play_spec.specs.Menu.{item_of, alts_at, paths_of}
use Rattle.rc_play_spec.specs.About.{About, scene_at, menu_at}
use Rattle.rc_play_spec.specs.Effects.{Dealing}
use Rattle.rc_play_spec.specs.Step.{Part, todo, round, turn, todos, decide, start}
use Rattle.rc_play_spec.specs.Stop.{Stopped}
use Rattle.rc_play_spec.specs.Fits.{around}
use Rattle.rc_play_spec.specs.Play.{Played, pick_at, reached}
use Rattle.rc_play_spec.specs.Plan.{Plan, deal_at}
use Rattle.rc_play_spec.specs.Keyed.{dealing_of, chooser_of, keyed_play}
use Rattle.rc_play_spec.proofs.ControlLemmas.{control_fits, zeros}
use Rattle.rc_play_spec.proofs.FitLemmas.{keyed_fit, keyed_leads}
use Rattle.rc_play_spec.proofs.FrontLemmas.{front_reached}
use Rattle.rc_play_spec.proofs.FrameRanges.{AreParts, Frames, item_parts, around_items, IsInRange as IsConfigInRange, first_range, choice_range}
use Rattle.rc_play_spec.proofs.KeptLemmas.{reached_holds}
use Rattle.rc_play_spec.proofs.MatchLemmas.{keyed_taken}
use Rattle.rc_play_spec.proofs.RangeLemmas.{IsStage, current_within}
use Rattle.rc_play_spec.proofs.ReachedLemmas.{decision_at_site}
use Rattle.rc_play_spec.proofs.StageLemmas.{stages_numbered}
use Rattle.rc_play_spec.specs.PlayedBack.{IsPlayable}

menu_few : (about : About) (site : ℕ) (table : Table) (control : Control) → length (menu_at about site table control) ≤ 256
menu_few about site table control =
    let scene = scene_at about table control.frames in
    let paths = paths_of scene (alts_at about.sheet site) in
    let a = length-map (take 256 paths) item_of in
    let b = length-take 256 paths in
    omega (arith, a, b)

module _ (about : About) (plan : Plan) (is : IsPlayable about plan) (m : ℕ) where
  around_stand : (parts : List Part) → AreParts about is.shape is.well parts → AllByRecursion (IsStage about.sheet is.well) (around parts)
  around_stand [] are = tt
  around_stand (todo i ∷ parts) are = around_stand parts are.1
  around_stand (round s ∷ parts) are =
      append_each (IsStage about.sheet is.well) (around parts) (s ∷ []) (around_stand parts are.1) (are.0.0, tt)
  around_stand (turn s ∷ parts) are = around_stand parts are.1

  start_range : IsConfigInRange about is.shape is.well (start about)
  start_range =
      let items = about.sheet.items in
      let parts = item_parts about is.shape is.well items [] (stages_numbered items is.well.numbered.stages) tt in
      let frames = subst (λ stages. Frames about is.shape is.well stages []) (sym (around_items about is.shape is.well items [])) tt in
      let both =
      subst (λ left. AreParts about is.shape is.well left × Frames about is.shape is.well (around left) []) (append-nil (todos (item_list items)))
      (parts, frames) in
      (both.0, both.1, (length-replicate about.sheet.players 0, zeros about.sheet.players 0))

  abbrev dealt : Dealing ℕ
  dealt = dealing_of (deal_at plan m).deal

  -- who decides is a player
  seat_within : (items : List ℕ) (at : Stopped ℕ) (seat site : ℕ) → reached about dealt items 0 ≡ Some at → at.stop ≡ decide seat site →
      seat < about.sheet.players
  seat_within items at seat site leads stands =
      let range =
      reached_holds about dealt (IsConfigInRange about is.shape is.well)
      (λ k c h. first_range about is.shape is.well dealt k c.left c.table c.control h.0 h.1 h.2)
      (λ k x c below h. choice_range about is.shape is.well dealt k x c.left c.table c.control h.0 h.1 h.2) start_range items 0 at leads in
      let decision = (decision_at_site about dealt is.well.numbered.sites items 0 at seat site leads stands).0 in
      subst (λ s. s < about.sheet.players) (sym decision.moves)
      (current_within about.sheet is.well player_class (around at.config.left) at.config.control.frames (around_stand at.config.left range.0) range.1)

  -- and decides at a site of the sheet
  site_there : (items : List ℕ) (at : Stopped ℕ) (seat site : ℕ) → reached about dealt items 0 ≡ Some at → at.stop ≡ decide seat site →
      site < length (sites_in about.sheet.items)
  site_there items at seat site leads stands = (control_fits about dealt is.shape is.well items 0 at seat site leads stands).there

  abbrev IsPickInRange : Pick → Type 0
  IsPickInRange pick = IsInRange (chosen pick)

  pub picks_in_range : (p : Played ℕ) → keyed_play about plan m ≡ Some p → AllByRecursion IsPickInRange p.picks
  picks_in_range p played = recursion_from_All IsPickInRange p.picks each where
    each : All IsPickInRange p.picks
    each n d less =
        let places = ap (λ shape. shape.places) is.shape in
        let lead = keyed_leads about plan m places is.sight is.well.numbered.sites p played in
        let front = front_reached about dealt p.picks 0 lead.0 lead.1 n less in
        let at : Stopped ℕ = front.0 in
        let seat : ℕ = front.1 in
        let site : ℕ = front.2 in
        let taken = keyed_taken about plan m p played n seat site at front.3 front.4 in
        let pick = pick_at about seat site (chooser_of about plan m seat site at.config.table at.config.control at.dealer).0 at.config in
        let same : get_or p.picks n d ≡ pick = same_Some _ _ (sym (slice_get-get_or p.picks n d less) ∙ taken) in
        let fits : pick.item < pick.size =
        subst (λ (q : Pick). q.item < q.size) same (keyed_fit about plan m places is.sight is.well.numbered.sites p played n d less) in
        let few = menu_few about site at.config.table at.config.control in
        let seats = seat_within (map (λ q. q.item) (take n p.picks)) at seat site front.3 front.4 in
        let sites = site_there (map (λ q. q.item) (take n p.picks)) at seat site front.3 front.4 in
        let players = is.well.limits.players in
        let most = is.well.limits.sites in
        subst IsPickInRange (sym same)
        (omega (arith, seats, players), omega (arith, sites, most), omega (arith, fits, few), omega (arith, fits), few)
