-- The grammar of a sheet: what may stand at each place, and of which parts each form of a list is made.
use Rattle.std.specs.Prelude.{List, [], ◌∷◌, Option, Some, None}
use Rattle.rc_check.specs.declared.keyword.Keyword.TheVariants as keyword
use Rattle.rc_check.specs.declared.grammar.Symbol.{Symbol}
use Rattle.rc_check.specs.declared.grammar.Symbol.TheVariants as symbol
use Rattle.rc_check.specs.declared.grammar.Rule.{Rule}
use Rattle.rc_check.specs.declared.grammar.Rule.TheVariants as rule

-- the forms that a list may have at each place
abbrev pub forms_of : Symbol → List Rule
forms_of (symbol.Word keyword) = []
forms_of symbol.Kind = []
forms_of symbol.Best = []
forms_of symbol.Name = []
forms_of symbol.Variable = []
forms_of symbol.PlayerCount = []
forms_of symbol.Member = []
forms_of symbol.Points = []
forms_of symbol.Sheet = rule.Game ∷ []
forms_of symbol.Setup = rule.Setup ∷ []
forms_of symbol.Line = rule.CreatePlayers ∷ rule.CreateTeams ∷ rule.CreateDeck ∷ rule.PutPoints ∷ []
forms_of symbol.Team = rule.Team ∷ []
forms_of symbol.Deck = rule.Deck ∷ []
forms_of symbol.Group = rule.Group ∷ []
forms_of symbol.Branches = rule.Branches ∷ []
forms_of symbol.Branch = rule.Branch ∷ []
forms_of symbol.Entries = rule.Entries ∷ []
forms_of symbol.Entry = rule.Entry ∷ []
forms_of symbol.Values = rule.Values ∷ []
forms_of symbol.Scoring = rule.Scoring ∷ []
forms_of symbol.Item = rule.Do ∷ rule.PlayerStage ∷ rule.TeamStage ∷ rule.Choice ∷ []
forms_of symbol.End = rule.End ∷ []
forms_of symbol.Alternative = rule.Do ∷ rule.If ∷ rule.AnyOf ∷ []
forms_of symbol.Domain = rule.Location ∷ rule.Filter ∷ rule.Union ∷ rule.Known ∷ rule.Partition ∷ []
forms_of symbol.Effect = rule.Move ∷ rule.MoveAll ∷ rule.Remember ∷ rule.Forget ∷ rule.Shuffle ∷ rule.Set
    ∷ rule.Increase ∷ rule.Decrease ∷ rule.If ∷ rule.Repeat ∷ rule.Each ∷ rule.Next ∷ rule.Reverse ∷ rule.Peek ∷ []
forms_of symbol.Spot = rule.TopOf ∷ rule.BottomOf ∷ []
forms_of symbol.Location = rule.Location ∷ []
forms_of symbol.Counter = rule.Counter ∷ []
forms_of symbol.Holder = rule.CurrentPlayer ∷ rule.CurrentTeam ∷ rule.TeamOf ∷ []
forms_of symbol.Owner = rule.CurrentPlayer ∷ rule.CurrentTeam ∷ rule.TeamOf ∷ []
forms_of symbol.Player = rule.CurrentPlayer ∷ []
forms_of symbol.Card = rule.TopCard ∷ rule.BottomCard ∷ rule.MaxCard ∷ rule.MinCard ∷ []
forms_of symbol.Collection = rule.Location ∷ rule.Filter ∷ rule.Union ∷ rule.Known ∷ []
forms_of symbol.Members = rule.Location ∷ rule.Filter ∷ rule.Union ∷ rule.Known ∷ []
forms_of symbol.Integer = rule.Counter ∷ rule.Size ∷ rule.Sum ∷ rule.PointsOf ∷ rule.Plus ∷ rule.Minus ∷ rule.Times ∷ []
forms_of symbol.Test = rule.Equal ∷ rule.NotEqual ∷ rule.Less ∷ rule.LessOrEqual ∷ rule.More ∷ rule.MoreOrEqual
    ∷ rule.Is ∷ rule.And ∷ rule.Or ∷ rule.Not ∷ rule.ForAll ∷ rule.ForAny ∷ []
forms_of symbol.Side = rule.Counter ∷ rule.Size ∷ rule.Sum ∷ rule.PointsOf ∷ rule.Plus ∷ rule.Minus ∷ rule.Times
    ∷ rule.TopCard ∷ rule.BottomCard ∷ rule.MaxCard ∷ rule.MinCard ∷ rule.CurrentPlayer ∷ rule.CurrentTeam ∷ rule.TeamOf
    ∷ rule.AttributeOf ∷ []

-- The places of the first parts of each form.
abbrev pub front_of : Rule → List Symbol
front_of rule.Game = symbol.Word keyword.Game ∷ symbol.Setup ∷ []
front_of rule.Setup = symbol.Word keyword.Setup ∷ []
front_of rule.CreatePlayers = symbol.Word keyword.Create ∷ symbol.Word keyword.Players ∷ symbol.PlayerCount ∷ []
front_of rule.CreateTeams = symbol.Word keyword.Create ∷ symbol.Word keyword.Teams ∷ []
front_of rule.CreateDeck = symbol.Word keyword.Create ∷ symbol.Word keyword.Deck ∷ symbol.Location ∷ symbol.Deck ∷ []
front_of rule.PutPoints = symbol.Word keyword.Put ∷ symbol.Word keyword.Points ∷ symbol.Name ∷ symbol.Entries ∷ []
front_of rule.Team = []
front_of rule.Deck = symbol.Word keyword.Deck ∷ []
front_of rule.Group = symbol.Name ∷ symbol.Branches ∷ []
front_of rule.Branches = []
front_of rule.Branch = symbol.Name ∷ []
front_of rule.Entries = []
front_of rule.Entry = symbol.Name ∷ symbol.Values ∷ symbol.Points ∷ []
front_of rule.Values = []
front_of rule.Scoring = symbol.Word keyword.Scoring ∷ symbol.Best ∷ symbol.Integer ∷ []
front_of rule.Do = symbol.Word keyword.Do ∷ []
front_of rule.PlayerStage = symbol.Word keyword.Stage ∷ symbol.Word keyword.Player ∷ symbol.End ∷ []
front_of rule.TeamStage = symbol.Word keyword.Stage ∷ symbol.Word keyword.Team ∷ symbol.End ∷ []
front_of rule.Choice = symbol.Word keyword.Choice ∷ []
front_of rule.End = symbol.Word keyword.End ∷ symbol.Test ∷ []
front_of rule.If = symbol.Word keyword.If ∷ symbol.Test ∷ []
front_of rule.AnyOf = symbol.Word keyword.Any ∷ symbol.Domain ∷ symbol.Variable ∷ symbol.Alternative ∷ []
front_of rule.Move = symbol.Word keyword.Move ∷ symbol.Card ∷ symbol.Spot ∷ []
front_of rule.MoveAll = symbol.Word keyword.Move ∷ symbol.Word keyword.All ∷ symbol.Collection ∷ symbol.Spot ∷ []
front_of rule.Remember = symbol.Word keyword.Remember ∷ symbol.Card ∷ symbol.Spot ∷ []
front_of rule.Forget = symbol.Word keyword.Forget ∷ symbol.Card ∷ []
front_of rule.Shuffle = symbol.Word keyword.Shuffle ∷ symbol.Location ∷ []
front_of rule.Set = symbol.Word keyword.Set ∷ symbol.Counter ∷ symbol.Integer ∷ []
front_of rule.Increase = symbol.Word keyword.Inc ∷ symbol.Counter ∷ symbol.Integer ∷ []
front_of rule.Decrease = symbol.Word keyword.Dec ∷ symbol.Counter ∷ symbol.Integer ∷ []
front_of rule.Repeat = symbol.Word keyword.Repeat ∷ symbol.Integer ∷ []
front_of rule.Each = symbol.Word keyword.All ∷ symbol.Members ∷ symbol.Variable ∷ []
front_of rule.Next = symbol.Word keyword.Cycle ∷ symbol.Word keyword.Next ∷ symbol.Owner ∷ []
front_of rule.Reverse = symbol.Word keyword.Cycle ∷ symbol.Word keyword.Reverse ∷ []
front_of rule.Peek = symbol.Word keyword.Peek ∷ symbol.Collection ∷ symbol.Owner ∷ []
front_of rule.TopOf = symbol.Word keyword.Top ∷ symbol.Location ∷ []
front_of rule.BottomOf = symbol.Word keyword.Bottom ∷ symbol.Location ∷ []
front_of rule.Location = symbol.Holder ∷ symbol.Kind ∷ symbol.Name ∷ []
front_of rule.Counter = symbol.Holder ∷ symbol.Word keyword.Sto ∷ symbol.Name ∷ []
front_of rule.CurrentPlayer = symbol.Word keyword.Current ∷ symbol.Word keyword.Player ∷ []
front_of rule.CurrentTeam = symbol.Word keyword.Current ∷ symbol.Word keyword.Team ∷ []
front_of rule.TeamOf = symbol.Word keyword.Team ∷ symbol.Word keyword.Of ∷ symbol.Player ∷ []
front_of rule.TopCard = symbol.Word keyword.Top ∷ symbol.Collection ∷ []
front_of rule.BottomCard = symbol.Word keyword.Bottom ∷ symbol.Collection ∷ []
front_of rule.MaxCard = symbol.Word keyword.Max ∷ symbol.Collection ∷ symbol.Word keyword.Using ∷ symbol.Name ∷ []
front_of rule.MinCard = symbol.Word keyword.Min ∷ symbol.Collection ∷ symbol.Word keyword.Using ∷ symbol.Name ∷ []
front_of rule.Filter = symbol.Word keyword.Filter ∷ symbol.Collection ∷ symbol.Variable ∷ symbol.Test ∷ []
front_of rule.Union = symbol.Word keyword.Union ∷ symbol.Collection ∷ []
front_of rule.Known = symbol.Word keyword.Known ∷ symbol.Location ∷ []
front_of rule.Partition = symbol.Word keyword.Partition ∷ symbol.Collection ∷ symbol.Name ∷ []
front_of rule.Size = symbol.Word keyword.Size ∷ symbol.Collection ∷ []
front_of rule.Sum = symbol.Word keyword.Sum ∷ symbol.Collection ∷ symbol.Word keyword.Using ∷ symbol.Name ∷ []
front_of rule.PointsOf = symbol.Word keyword.Points ∷ symbol.Card ∷ symbol.Word keyword.Using ∷ symbol.Name ∷ []
front_of rule.Plus = symbol.Word keyword.Plus ∷ symbol.Integer ∷ symbol.Integer ∷ []
front_of rule.Minus = symbol.Word keyword.Minus ∷ symbol.Integer ∷ symbol.Integer ∷ []
front_of rule.Times = symbol.Word keyword.Times ∷ symbol.Integer ∷ symbol.Integer ∷ []
front_of rule.Equal = symbol.Word keyword.Equal ∷ symbol.Side ∷ symbol.Side ∷ []
front_of rule.NotEqual = symbol.Word keyword.NotEqual ∷ symbol.Side ∷ symbol.Side ∷ []
front_of rule.Less = symbol.Word keyword.Less ∷ symbol.Integer ∷ symbol.Integer ∷ []
front_of rule.LessOrEqual = symbol.Word keyword.LessOrEqual ∷ symbol.Integer ∷ symbol.Integer ∷ []
front_of rule.More = symbol.Word keyword.More ∷ symbol.Integer ∷ symbol.Integer ∷ []
front_of rule.MoreOrEqual = symbol.Word keyword.MoreOrEqual ∷ symbol.Integer ∷ symbol.Integer ∷ []
front_of rule.Is = symbol.Word keyword.Is ∷ symbol.Card ∷ symbol.Name ∷ symbol.Name ∷ []
front_of rule.And = symbol.Word keyword.And ∷ []
front_of rule.Or = symbol.Word keyword.Or ∷ []
front_of rule.Not = symbol.Word keyword.Not ∷ symbol.Test ∷ []
front_of rule.ForAll = symbol.Word keyword.All ∷ symbol.Members ∷ symbol.Variable ∷ symbol.Test ∷ []
front_of rule.ForAny = symbol.Word keyword.Any ∷ symbol.Members ∷ symbol.Variable ∷ symbol.Test ∷ []
front_of rule.AttributeOf = symbol.Word keyword.Attr ∷ symbol.Card ∷ symbol.Name ∷ []

-- The place of each further part, of which there is one at least, where there may be any.
abbrev pub more_of : Rule → Option Symbol
more_of rule.Game = Some symbol.Item
more_of rule.Setup = Some symbol.Line
more_of rule.CreatePlayers = None
more_of rule.CreateTeams = Some symbol.Team
more_of rule.CreateDeck = None
more_of rule.PutPoints = None
more_of rule.Team = Some symbol.Member
more_of rule.Deck = Some symbol.Group
more_of rule.Group = None
more_of rule.Branches = Some symbol.Branch
more_of rule.Branch = Some symbol.Group
more_of rule.Entries = Some symbol.Entry
more_of rule.Entry = None
more_of rule.Values = Some symbol.Name
more_of rule.Scoring = None
more_of rule.Do = Some symbol.Effect
more_of rule.PlayerStage = Some symbol.Item
more_of rule.TeamStage = Some symbol.Item
more_of rule.Choice = Some symbol.Alternative
more_of rule.End = None
more_of rule.If = Some symbol.Effect
more_of rule.AnyOf = None
more_of rule.Move = None
more_of rule.MoveAll = None
more_of rule.Remember = None
more_of rule.Forget = None
more_of rule.Shuffle = None
more_of rule.Set = None
more_of rule.Increase = None
more_of rule.Decrease = None
more_of rule.Repeat = Some symbol.Effect
more_of rule.Each = Some symbol.Effect
more_of rule.Next = None
more_of rule.Reverse = None
more_of rule.Peek = None
more_of rule.TopOf = None
more_of rule.BottomOf = None
more_of rule.Location = None
more_of rule.Counter = None
more_of rule.CurrentPlayer = None
more_of rule.CurrentTeam = None
more_of rule.TeamOf = None
more_of rule.TopCard = None
more_of rule.BottomCard = None
more_of rule.MaxCard = None
more_of rule.MinCard = None
more_of rule.Filter = None
more_of rule.Union = Some symbol.Collection
more_of rule.Known = None
more_of rule.Partition = None
more_of rule.Size = None
more_of rule.Sum = None
more_of rule.PointsOf = None
more_of rule.Plus = None
more_of rule.Minus = None
more_of rule.Times = None
more_of rule.Equal = None
more_of rule.NotEqual = None
more_of rule.Less = None
more_of rule.LessOrEqual = None
more_of rule.More = None
more_of rule.MoreOrEqual = None
more_of rule.Is = None
more_of rule.And = Some symbol.Test
more_of rule.Or = Some symbol.Test
more_of rule.Not = None
more_of rule.ForAll = None
more_of rule.ForAny = None
more_of rule.AttributeOf = None
