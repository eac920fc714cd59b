-- Tables that stay.
use Rattle.std.proofs.Common.{◌≡◌, List, [], ◌∷◌, ◌++◌, sym, ap, ◌∙◌, append_assoc}
use Rattle.rc_play_spec.specs.Table.{Table}
use Rattle.rc_undo.specs.Undo.{Kept, tables, noting, edited, Keeps, GoesBack}

pub keeps_all : (a b : Kept) → b ≡ a → Keeps a b
keeps_all a b same =
    record {
      shape = ap (λ k. k.laid.shape) same;
      notes = ap (λ k. k.notes) same;
      behind = λ on. ([], ap tables same);
      home = ap (λ k. k.home) same;
    }

pub keeps_edit : (a b : Kept) (t : Table) → b ≡ edited a t → Keeps a b
keeps_edit a b t is =
    record {
      shape = ap (λ k. k.laid.shape) is;
      notes = ap (λ k. k.notes) is;
      behind = λ on. (t ∷ [], ap tables is ∙ ap (λ notes. t ∷ noting notes a.laid.table a.before) on);
      home = ap (λ k. k.home) is;
    }

pub keeps_then : (a b c : Kept) → Keeps a b → Keeps b c → Keeps a c
keeps_then a b c first second =
    record {
      shape = second.shape ∙ first.shape;
      notes = second.notes ∙ first.notes;
      behind = λ on.
          let one = first.behind on in
          let two = second.behind (first.notes ∙ on) in
          (two.0 ++ one.0, two.1 ∙ ap (λ ts. two.0 ++ ts) one.1 ∙ sym (append_assoc two.0 one.0 (tables a)));
      home = second.home ∙ first.home;
    }

pub goes_then : (a b c : Kept) (gone gone' : List Table) → GoesBack a b gone → GoesBack b c gone' → GoesBack a c (gone ++ gone')
goes_then a b c gone gone' first second =
    record {
      shape = second.shape ∙ first.shape;
      notes = second.notes ∙ first.notes;
      behind = first.behind ∙ ap (λ ts. gone ++ ts) second.behind ∙ sym (append_assoc gone gone' (tables c));
      home = second.home ∙ first.home;
    }
