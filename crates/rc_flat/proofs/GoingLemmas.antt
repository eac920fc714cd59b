-- Machines that go from moment to moment.
use Rattle.std.proofs.Common.{◌≡◌, ℕ, ◌<◌, List, Some, IsSome, length, refl, sym, ap, ◌∙◌, subst}
use Rattle.rc_play_spec.specs.Control.{Control}
use Rattle.rc_play_spec.specs.Table.{Table}
use Rattle.rc_play_spec.specs.About.{About, menu_at}
use Rattle.rc_play_spec.specs.Path.{Path}
use Rattle.rc_play_spec.specs.Step.{Config}
use Rattle.rc_table.specs.Laid.{Laid}
use Rattle.rc_rules.specs.Control.{control_seen, frames_seen}
use Rattle.rc_rules.specs.Menu.{menu_seen}
use Rattle.rc_value.specs.Current.{IsCurrent}
use Rattle.rc_code.specs.Instruction.{Instruction}
use Rattle.rc_flat.specs.Flat.{config_of, flat_from}
use Rattle.rc_flat.specs.State.{IsReady, flat_of, config_at}
use Rattle.rc_flat.specs.MarkedMoments.{IsInMatch}
use Rattle.rc_flat.specs.declared.state.State.{State}
use Rattle.rc_flat.proofs.MomentLemmas.{in_match}
use Rattle.rc_flat.specs.Machine.{Machine, KeepsTables}
use Rattle.rc_flat.specs.Moments.{IsMoment, StaysInMatch, flat_then}
use Rattle.rc_flat.specs.declared.moments.Moment.{Moment}

module _ (about : About) (code : List Instruction) where
  -- what is written down is where a match stands
  pub moment_here : (state : State) (moment : Moment) → IsReady about code state → moment.table ≡ state.board.laid →
      control_seen moment.stand.control ≡ control_seen state.control → moment.stand.place ≡ state.place →
      menu_seen moment.stand.menu.items ≡ menu_seen state.menu.items → moment.current ≡ state.current →
      IsMoment about code (config_at about code state) moment
  moment_here state moment ready table control place menu current =
      let same : flat_then about code moment ≡ flat_of about code state =
      ap (λ (l : Laid). flat_from about code moment.stand.place l.table (control_seen moment.stand.control)) table
      ∙ ap (λ (p : Path). flat_from about code p state.board.laid.table (control_seen moment.stand.control)) place
      ∙ ap (flat_from about code state.place state.board.laid.table) control in
      record {
        shape = ap (λ (l : Laid). l.shape) table ∙ ready.laid;
        on = subst IsInMatch (sym same) (in_match about code state ready);
        there = ap config_of same;
        current = subst (IsCurrent about.sheet (frames_seen state.control.frames.items)) (sym current) ready.current;
        menu = λ site is. menu ∙ (ready.kept site is).menu;
      }

  module _ (config : Config) (moment : Moment) (is : IsMoment about code config moment) where
    module _ (new : State) (there : flat_of about code new ≡ flat_then about code moment) where
      -- it stands where it stood then
      pub config_then : config_at about code new ≡ config
      config_then = ap config_of there ∙ is.there

      -- and goes on as it did then
      pub ready_then : new.board.laid ≡ moment.table → menu_seen new.menu.items ≡ menu_seen moment.stand.menu.items → new.current ≡ moment.current →
          IsReady about code new
      ready_then board menu current =
          let on = subst IsInMatch (sym there) is.on in
          record {
            laid = ap (λ (l : Laid). l.shape) board ∙ is.shape;
            play = on.play;
            current =
                subst (IsCurrent about.sheet (frames_seen new.control.frames.items)) (sym current)
                (subst (λ (c : Config). IsCurrent about.sheet c.control.frames moment.current) (sym config_then) is.current);
            kept = λ site at.
                record {
                  offered = on.offered site at;
                  menu = menu ∙ is.menu site (ap (λ (c : Config). c.control.site) (sym config_then) ∙ at)
                      ∙ ap (λ (c : Config). menu_at about site c.table c.control) (sym config_then);
                };
          }

    -- a match goes on there with another table, if something is offered
    pub dealt_then : (table : Table) → ((site : ℕ) → config.control.site ≡ Some site → 0 < length (menu_at about site table config.control)) →
        IsInMatch (flat_from about code moment.stand.place table (control_seen moment.stand.control))
    dealt_then table some =
        let control : control_seen moment.stand.control ≡ config.control = ap (λ (c : Config). c.control) is.there in
        record {
          play = record {
            stands = is.on.play.stands;
            frames = is.on.play.frames;
            shallow = is.on.play.shallow;
            turn = is.on.play.turn;
            counts = is.on.play.counts;
          };
          offered = λ site at.
              let there = is.on.offered site at in
              record {
                here = there.here;
                blocks = there.blocks;
                inside = there.inside;
                there = there.there;
                some = subst (λ (k : Control). 0 < length (menu_at about site table k)) (sym control)
                    (some site (ap (λ (k : Control). k.site) (sym control) ∙ at));
              };
        }

-- a machine stays in its match
pub stays_still : (a : Machine) → StaysInMatch a a
stays_still a = record { about = refl; code = refl; home = refl }

pub stays_then : (a b c : Machine) → StaysInMatch a b → StaysInMatch b c → StaysInMatch a c
stays_then a b c first then = record { about = then.about ∙ first.about; code = then.code ∙ first.code; home = then.home ∙ first.home }

pub stays_kept : (a b : Machine) → KeepsTables a b → StaysInMatch a b
stays_kept a b keeps = record { about = keeps.about; code = keeps.code; home = keeps.home }

-- and where it had a home, it has one
pub home_stays : (a b : Machine) → StaysInMatch a b → IsSome a.home → IsSome b.home
home_stays a b stays some = subst IsSome (sym stays.home) some
