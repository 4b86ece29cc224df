-- The numbers of refusals (01, "What is turned down"; 02, U3, U7 and U12).
--
--   number r      == the number of a refusal: 1 to 30 on the sheet, 1001 to 1006 for the libraries' own
--   refusal_of n  == the refusal that has that number; where none has, one that does not matter: no test tells such a number
use Rattle.std.specs.Prelude.{cond, List, [], ◌∷◌, ℕ, ◌-◌, ltb, get_or}
use Rattle.refusal.specs.declared.Refusal.{Refusal}

abbrev pub number : Refusal → ℕ
number Refusal.Modulus = 1
number Refusal.Size = 2
number Refusal.Cuts = 3
number Refusal.Groups = 4
number Refusal.Division = 5
number Refusal.Block = 6
number Refusal.Hosts = 7
number Refusal.Needed = 8
number Refusal.Points = 9
number Refusal.Point = 10
number Refusal.RepeatedPoint = 11
number Refusal.Host = 12
number Refusal.Length = 13
number Refusal.Element = 14
number Refusal.Mask = 15
number Refusal.Kind = 16
number Refusal.Short = 17
number Refusal.Mark = 18
number Refusal.Version = 19
number Refusal.MessageLength = 20
number Refusal.HeardAbove = 21
number Refusal.Foreign = 22
number Refusal.Heard = 23
number Refusal.TooFew = 24
number Refusal.Signed = 25
number Refusal.Text = 26
number Refusal.Words = 27
number Refusal.Page = 28
number Refusal.Window = 29
number Refusal.OutsideWindow = 30
number Refusal.PairKinds = 1001
number Refusal.Count = 1002
number Refusal.PairModuli = 1003
number Refusal.PairHosts = 1004
number Refusal.PairJobs = 1005
number Refusal.PairSizes = 1006

-- on the sheet, from 1 on
unfoldable pub sheet : List Refusal
sheet =
    Refusal.Modulus ∷ Refusal.Size ∷ Refusal.Cuts ∷ Refusal.Groups ∷ Refusal.Division ∷ Refusal.Block ∷ Refusal.Hosts ∷
    Refusal.Needed ∷ Refusal.Points ∷ Refusal.Point ∷ Refusal.RepeatedPoint ∷ Refusal.Host ∷ Refusal.Length ∷
    Refusal.Element ∷ Refusal.Mask ∷ Refusal.Kind ∷ Refusal.Short ∷ Refusal.Mark ∷ Refusal.Version ∷
    Refusal.MessageLength ∷ Refusal.HeardAbove ∷ Refusal.Foreign ∷ Refusal.Heard ∷ Refusal.TooFew ∷ Refusal.Signed ∷
    Refusal.Text ∷ Refusal.Words ∷ Refusal.Page ∷ Refusal.Window ∷ Refusal.OutsideWindow ∷ []

-- of the libraries' own, from 1001 on
unfoldable pub own : List Refusal
own =
    Refusal.PairKinds ∷ Refusal.Count ∷ Refusal.PairModuli ∷ Refusal.PairHosts ∷ Refusal.PairJobs ∷ Refusal.PairSizes ∷ []

unfoldable pub refusal_of : ℕ → Refusal
refusal_of n = cond (ltb n 1001) (get_or sheet (n - 1) Refusal.Modulus) (get_or own (n - 1001) Refusal.PairKinds)
