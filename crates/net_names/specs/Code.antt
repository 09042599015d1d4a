-- The codes of refusals, by number and by their names in errno.h.
use Rattle.std.specs.Prelude.{ℕ, ◌==◌, Bool, List, codes}
use Rattle.net_names.specs.declared.code.Code.{Code}
use Rattle.net_names.specs.declared.code.Code.TheVariants.{Invalid, Exists, NoNetwork, NoDevice, NoEntry, Busy, NotPermitted, AccessDenied, NoSpace, NoRoute}

abbrev pub number_of : Code → ℕ
number_of Invalid = 1
number_of Exists = 2
number_of NoNetwork = 3
number_of NoDevice = 4
number_of NoEntry = 5
number_of Busy = 6
number_of NotPermitted = 7
number_of AccessDenied = 8
number_of NoSpace = 9
number_of NoRoute = 10

abbrev pub text_of : Code → List ℕ
text_of Invalid = codes "EINVAL"
text_of Exists = codes "EEXIST"
text_of NoNetwork = codes "ENONET"
text_of NoDevice = codes "ENODEV"
text_of NoEntry = codes "ENOENT"
text_of Busy = codes "EBUSY"
text_of NotPermitted = codes "EPERM"
text_of AccessDenied = codes "EACCES"
text_of NoSpace = codes "ENOSPC"
text_of NoRoute = codes "ESRCH"

-- the codes have one number: where and only where they are equal
abbrev pub same_code : Code → Code → Bool
same_code one other = number_of one == number_of other
