-- Machines that stand at home.
use Rattle.std.proofs.Common.{◌≡◌, ℕ, List, Option, Some, sym, ap, ◌∙◌, subst}
use Rattle.std.specs.Prelude.{unwrap_or}
use Rattle.rc_sheet_spec.specs.WellFormed.{IsWellFormed}
use Rattle.rc_play_spec.specs.Control.{Control}
use Rattle.rc_play_spec.specs.Table.{Table}
use Rattle.rc_play_spec.specs.About.{About, menu_at}
use Rattle.rc_play_spec.specs.Step.{Config}
use Rattle.rc_play_spec.specs.Path.{Path}
use Rattle.rc_rules.specs.Control.{control_seen, frames_seen}
use Rattle.rc_rules.specs.Menu.{menu_seen}
use Rattle.rc_value.specs.Current.{IsCurrent}
use Rattle.rc_code.specs.Instruction.{Code, Instruction}
use Rattle.rc_code.specs.Laws.{SitesArePlaced}
use Rattle.rc_code.specs.Seen.{code_seen}
use Rattle.rc_code.specs.Stands.{StandsFor}
use Rattle.rc_code.specs.declared.code.Code.{Code as RawCode}
use Rattle.rc_undo.specs.Undo.{Kept, gone_home}
use Rattle.rc_flat.specs.Flat.{Flat, config_of, flat_from, IsInPlay, IsOffered}
use Rattle.rc_flat.specs.State.{IsReady, flat_of}
use Rattle.rc_flat.specs.MarkedMoments.{IsInMatch}
use Rattle.rc_flat.specs.Machine.{Machine}
use Rattle.rc_flat.specs.Home.{config_at_home, IsAtSite, IsHome}
use Rattle.rc_flat.specs.HomeSeen.{IsCodeOf}
use Rattle.rc_flat.specs.declared.stand.Stand.{Stand}
use Rattle.rc_flat.specs.declared.state.State.{State}
use Rattle.rc_flat.proofs.SitePlaceLemmas.{IsPlaceOf, decision_match}

-- BACK AT HOME

module _ (about : About) (code : List Instruction) (old : Kept) (new : State) (stand : Stand) (board : new.board ≡ gone_home old)
    (control : control_seen new.control ≡ control_seen stand.control) (place : new.place ≡ stand.place) where
  pub stands_home : (table : Table) → old.home ≡ Some table → flat_of about code new ≡ flat_from about code stand.place table (control_seen stand.control)
  stands_home table is =
      ap (λ (c : Control). record { about = about; code = code; place = new.place; table = new.board.laid.table; control = c }) control
      ∙ ap (λ (p : Path). record { about = about; code = code; place = p; table = new.board.laid.table; control = control_seen stand.control }) place
      ∙ ap (λ (t : Table). record { about = about; code = code; place = stand.place; table = t; control = control_seen stand.control })
      (ap (λ (k : Kept). k.laid.table) board ∙ ap (λ o. unwrap_or o old.laid.table) is)

  pub config_home : IsHome about code old.home stand → config_of (flat_of about code new) ≡ config_at_home about code old.home stand
  config_home home =
      ap config_of (stands_home home.table home.is)
      ∙ sym (ap (λ o. config_at_home about code o stand) home.is)

  pub ready_home : menu_seen new.menu.items ≡ menu_seen stand.menu.items → IsCurrent about.sheet (frames_seen new.control.frames.items) new.current → old.laid.shape ≡ about.shape → IsHome about code old.home stand →
      IsReady about code new
  ready_home menu current shape home =
      let same = stands_home home.table home.is in
      record {
        laid = ap (λ (k : Kept). k.laid.shape) board ∙ shape;
        play = subst IsInPlay (sym same) home.on.play;
        current = current;
        kept = λ site is.
            let there = sym (ap (λ (c : Control). c.site) control) ∙ is in
            record {
              offered = subst (λ (m : Flat). IsOffered m site) (sym same) (home.on.offered site there);
              menu = menu ∙ home.menu site there ∙ ap (λ (m : Flat). menu_at about site m.table m.control) (sym same);
            };
      }

-- MACHINES THAT ARE MADE AT HOME

-- the place of a site is one for each table of its decisions
pub is_at_site : (about : About) (code : Code) (control : Control) (site : ℕ) (place : Path) → SitesArePlaced → StandsFor about.sheet code →
    IsWellFormed about.sheet → control.site ≡ Some site → IsPlaceOf code site place → IsAtSite about code.list place control
is_at_site about code control site place laws stands formed is found =
    λ table can. decision_match about code table control laws stands formed can site place is found

-- in the machine's own code
pub own_site : (about : About) (list : List Instruction) (raw : RawCode) (control : Control) (site : ℕ)
    (place : Path) → SitesArePlaced →
    IsCodeOf about list raw → IsWellFormed about.sheet → control.site ≡ Some site → IsPlaceOf
    (code_seen raw) site place →
    IsAtSite about list place control
own_site about list raw control site place laws has formed is found =
    subst (λ (l : List Instruction). IsAtSite about l place control) has.same
    (is_at_site about (code_seen raw) control site place laws has.stands formed is found)

-- what is at home, by other names for the same
module _ (about : About) (code : List Instruction) (place : Path) (table : Table) (control : Control) (m : Machine) (stand : Stand) (same : m.about ≡ about)
    (code_is : m.code ≡ code) (home : m.home ≡ Some table) (place_is : stand.place ≡ place) (control_is : control_seen stand.control ≡ control)
    (config : m.config ≡ config_of (flat_from about code place table control)) where
  flat_is : flat_from m.about m.code stand.place table (control_seen stand.control) ≡ flat_from about code place table control
  flat_is =
      ap (λ (a : About). flat_from a m.code stand.place table (control_seen stand.control)) same
      ∙ ap (λ (c : List Instruction). flat_from about c stand.place table (control_seen stand.control)) code_is
      ∙ ap (λ (p : Path). flat_from about code p table (control_seen stand.control)) place_is
      ∙ ap (λ (c : Control). flat_from about code place table c) control_is

  site_is : IsAtSite about code place control → IsAtSite m.about m.code stand.place (control_seen stand.control)
  site_is site =
      subst (λ (a : About). IsAtSite a m.code stand.place (control_seen stand.control)) (sym same)
      (subst (λ (c : List Instruction). IsAtSite about c stand.place (control_seen stand.control)) (sym code_is)
      (subst (λ (p : Path). IsAtSite about code p (control_seen stand.control)) (sym place_is)
      (subst (λ (c : Control). IsAtSite about code place c) (sym control_is) site)))

  pub home_made : IsInMatch (flat_from about code place table control) →
      ((site : ℕ) → m.config.control.site ≡ Some site → menu_seen stand.menu.items ≡ menu_at m.about site m.config.table m.config.control) →
      IsAtSite about code place control → IsHome m.about m.code m.home stand
  home_made on menu site =
      record {
        table = table;
        is = home;
        on = subst IsInMatch (sym flat_is) on;
        menu = λ number is.
            menu number (ap (λ (c : Config). c.control.site) config ∙ sym (ap (λ (c : Control). c.site) control_is) ∙ is)
            ∙ ap (λ (c : Config). menu_at m.about number c.table c.control) config
            ∙ ap (λ (c : Control). menu_at m.about number table c) (sym control_is);
        site = site_is site;
      }

  pub home_here : config_at_home m.about m.code m.home stand ≡ m.config
  home_here = ap (λ o. config_at_home m.about m.code o stand) home ∙ ap config_of flat_is ∙ sym config

-- THE HOME STAYS

module _ (old new : Machine) (stand : Stand) (about : new.about ≡ old.about) (code : new.code ≡ old.code) (home : new.home ≡ old.home) where
  pub home_stays : IsHome old.about old.code old.home stand → IsHome new.about new.code new.home stand
  home_stays is =
      subst (λ (a : About). IsHome a new.code new.home stand) (sym about)
      (subst (λ (c : List Instruction). IsHome old.about c new.home stand) (sym code)
      (subst (λ (h : Option Table). IsHome old.about old.code h stand) (sym home) is))

  pub same_home : config_at_home new.about new.code new.home stand ≡ config_at_home old.about old.code old.home stand
  same_home =
      ap (λ (a : About). config_at_home a new.code new.home stand) about
      ∙ ap (λ (c : List Instruction). config_at_home old.about c new.home stand) code
      ∙ ap (λ (h : Option Table). config_at_home old.about old.code h stand) home

-- and the code
pub code_stays : (old new : Machine) (raw : RawCode) → new.about ≡ old.about → new.code ≡ old.code
    → IsCodeOf old.about old.code raw →
    IsCodeOf new.about new.code raw
code_stays old new raw about code is =
    subst (λ (a : About). IsCodeOf a new.code raw) (sym about) (subst (λ
    (c : List Instruction). IsCodeOf old.about c raw) (sym code) is)
