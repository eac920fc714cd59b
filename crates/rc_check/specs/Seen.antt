-- What the code holds, as the definitions have it.
use Rattle.std.specs.Prelude.{ℕ, nat_lt, if◌then◌else◌, List, map, Option, Some, None}
use Rattle.std.specs.Borrow.{Bor}
use Rattle.rc_base.specs.Tree.{Tree, list, nil}
use Rattle.rc_sheet_spec.specs.Naming.{Variable as PureVariable}
use Rattle.rc_sheet_spec.specs.WellFormed.{Around as PureAround}
use Rattle.rc_form.specs.Form.{tree_of, trees_of, packed}
use Rattle.rc_form.specs.declared.form.Form.{Form}
use Rattle.rc_check.specs.SecondNames.{OwnedMention}
use Rattle.rc_check.specs.SecondParts.{Standing as PureStanding}
use Rattle.rc_check.specs.declared.around.BoundVariable.{BoundVariable}
use Rattle.rc_check.specs.declared.around.Inner.{Inner}
use Rattle.rc_check.specs.declared.around.Inner.TheVariants.{Same, All, Behind}
use Rattle.rc_check.specs.declared.owned.Mention.{Mention}
use Rattle.rc_check.specs.declared.standing.Setting.{Setting}

-- a part, where there is one
abbrev pub part_seen : Option (Bor Form) → Tree
part_seen None = list nil 0 0
part_seen (Some part) = tree_of part.now

-- words, by their bytes
abbrev pub words_seen : List (Bor (List ℕ)) → List (List ℕ)
words_seen words = map (λ word. word.now) words

-- the words of entries, by their bytes
abbrev pub entries_seen : {V : Type 0} → List (Bor (List ℕ) × V) → List (List ℕ)
entries_seen entries = map (λ entry. entry.0.now) entries

abbrev pub variable_seen : BoundVariable → PureVariable
variable_seen variable = record { word = variable.word.now; sort = variable.sort }

abbrev pub mention_seen : Mention → OwnedMention
mention_seen mention = record { name = mention.name.now; kind = mention.kind.now; class = mention.class }

-- what is around the part of a form at this index, where this is around the form
abbrev pub inner_seen : PureAround → Inner → ℕ → PureAround
inner_seen outer Same index = outer
inner_seen outer (All around) index = around
inner_seen outer (Behind last around) index = if nat_lt last index then around else outer

-- where a part stands, with the attributes that may stand before it in a face
abbrev pub standing_seen : Setting → List (List ℕ) → PureStanding
standing_seen at above =
    record {
      place = at.place;
      role = at.role;
      beside = packed (trees_of at.beside.now);
      around = at.around.now;
      above = above;
    }
