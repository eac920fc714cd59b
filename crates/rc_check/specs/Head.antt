-- How a list begins, as far as it tells which forms the list may have.
use Rattle.std.specs.Prelude.{Bool, true, false, [], ◌∷◌}
use Rattle.rc_base.specs.Tree.{Tree, word, list, Trees, nil, cons}
use Rattle.rc_check.specs.Keyword.{text_of}
use Rattle.rc_check.specs.declared.head.Head.{Head}
use Rattle.rc_check.specs.declared.head.Head.TheVariants.{Word, Variable, Name, List}
use Rattle.rc_check.specs.declared.keyword.Keyword.TheVariants as keyword

-- a part with which lists begin so
abbrev pub tree_by : Head → Tree
tree_by (Word keyword) = word (text_of keyword) 0 0
tree_by Variable = word (39 ∷ []) 0 0
tree_by Name = word [] 0 0
tree_by List = list nil 0 0

-- a form that begins so may be told by the word behind its head
abbrev pub wants_second : Head → Bool
wants_second (Word keyword.Create) = true
wants_second (Word keyword.Put) = true
wants_second (Word keyword.Stage) = true
wants_second (Word keyword.Move) = true
wants_second (Word keyword.Cycle) = true
wants_second (Word keyword.Current) = true
wants_second (Word keyword.Team) = true
wants_second head = false

-- the first of these parts is an atom
abbrev pub begin_with_word : Trees → Bool
begin_with_word (cons (word bytes from to) rest) = true
begin_with_word parts = false
