-- The bytes of the scripts of the examples, as the files of the repository have them (`tools/gate/texts`). A reader should see that they are what one would write
-- for the tables of `mg_examples`.
use Rattle.std.specs.Prelude.{ℕ, List, [], ◌∷◌, codes}
use Rattle.loaded_examples.specs.Lines.{text_of}

-- `basic both_lines`
abbrev pub basic : List ℕ
basic = text_of (
    codes "lines = [\"a\", \"b\"]"
    ∷ codes "contexts = [\"c\"]"
    ∷ codes "start = \"idle\""
    ∷ codes "restart = \"rearm\""
    ∷ codes "[[events]]"
    ∷ codes "name = \"hang\""
    ∷ codes "list = [\"al/on=state\"]"
    ∷ codes "[[state]]"
    ∷ codes "name = \"idle\""
    ∷ codes "on.a.of = \"talk\""
    ∷ codes "[[state]]"
    ∷ codes "name = \"talk\""
    ∷ codes "do = [\"add $c a mode=SendReceive events=hang\", \"add c b mode=SendReceive\"]"
    ∷ codes "fault = \"part\""
    ∷ codes "talk = [\"a-b\"]"
    ∷ codes "on.a.on = \"part\""
    ∷ codes "[[state]]"
    ∷ codes "name = \"part\""
    ∷ codes "do = [\"subtract c *\"]"
    ∷ codes "talk = [\"a-b\"]"
    ∷ codes "ok = \"rearm\""
    ∷ codes "fault = \"part\""
    ∷ codes "[[state]]"
    ∷ codes "name = \"done\""
    ∷ codes "end = true"
    ∷ codes "[[state]]"
    ∷ codes "name = \"rearm\""
    ∷ codes "do = [\"modify - a events=armed signals=none\", \"modify - b events=armed signals=none\"]"
    ∷ codes "ok = \"done\""
    ∷ codes "fault = \"rearm\""
    ∷ []
    )

-- the script `calling both_lines`
abbrev pub calling : List ℕ
calling = text_of (
    codes "lines = [\"a\", \"b\"]"
    ∷ codes "contexts = [\"c\"]"
    ∷ codes "start = \"idle\""
    ∷ codes "restart = \"idle\""
    ∷ codes "[[state]]"
    ∷ codes "name = \"idle\""
    ∷ codes "on.a.of = \"talk\""
    ∷ codes "[[state]]"
    ∷ codes "name = \"talk\""
    ∷ codes "do = [\"add $c a mode=SendReceive\", \"add c b mode=SendReceive\"]"
    ∷ codes "talk = [\"a-b\"]"
    ∷ codes "fault = \"stopped\""
    ∷ codes "[[state]]"
    ∷ codes "name = \"stopped\""
    ∷ []
    )

-- the script `calling []`: the same, and no state marks a pair
abbrev pub unmarked : List ℕ
unmarked = text_of (
    codes "lines = [\"a\", \"b\"]"
    ∷ codes "contexts = [\"c\"]"
    ∷ codes "start = \"idle\""
    ∷ codes "restart = \"idle\""
    ∷ codes "[[state]]"
    ∷ codes "name = \"idle\""
    ∷ codes "on.a.of = \"talk\""
    ∷ codes "[[state]]"
    ∷ codes "name = \"talk\""
    ∷ codes "do = [\"add $c a mode=SendReceive\", \"add c b mode=SendReceive\"]"
    ∷ codes "fault = \"stopped\""
    ∷ codes "[[state]]"
    ∷ codes "name = \"stopped\""
    ∷ []
    )

-- `recovering`
abbrev pub recovering : List ℕ
recovering = text_of (
    codes "lines = [\"a\", \"b\"]"
    ∷ codes "contexts = [\"c\"]"
    ∷ codes "start = \"idle\""
    ∷ codes "restart = \"talk\""
    ∷ codes "[[state]]"
    ∷ codes "name = \"idle\""
    ∷ codes "[[state]]"
    ∷ codes "name = \"talk\""
    ∷ codes "do = [\"add $c a mode=SendReceive\", \"add c b mode=SendReceive\"]"
    ∷ codes "fault = \"stopped\""
    ∷ codes "[[state]]"
    ∷ codes "name = \"stopped\""
    ∷ []
    )

-- `renewing`
abbrev pub renewing : List ℕ
renewing = text_of (
    codes "lines = [\"a\", \"b\"]"
    ∷ codes "contexts = [\"c\"]"
    ∷ codes "start = \"ready\""
    ∷ codes "restart = \"stopped\""
    ∷ codes "[[state]]"
    ∷ codes "name = \"ready\""
    ∷ codes "timer = \"talk\""
    ∷ codes "on.a.of = \"done\""
    ∷ codes "[[state]]"
    ∷ codes "name = \"talk\""
    ∷ codes "do = [\"add $c a mode=SendReceive\", \"add c b mode=SendReceive\"]"
    ∷ codes "talk = [\"a-b\"]"
    ∷ codes "fault = \"stopped\""
    ∷ codes "[[state]]"
    ∷ codes "name = \"stopped\""
    ∷ codes "[[state]]"
    ∷ codes "name = \"done\""
    ∷ codes "end = true"
    ∷ []
    )

-- `unarmed`
abbrev pub unarmed : List ℕ
unarmed = text_of (
    codes "lines = [\"a\", \"b\"]"
    ∷ codes "start = \"idle\""
    ∷ codes "restart = \"done\""
    ∷ codes "[[state]]"
    ∷ codes "name = \"idle\""
    ∷ codes "[[state]]"
    ∷ codes "name = \"done\""
    ∷ codes "end = true"
    ∷ []
    )

-- `created_twice`
abbrev pub created_twice : List ℕ
created_twice = text_of (
    codes "lines = [\"a\", \"b\"]"
    ∷ codes "contexts = [\"c\"]"
    ∷ codes "start = \"idle\""
    ∷ codes "restart = \"lost\""
    ∷ codes "[[state]]"
    ∷ codes "name = \"idle\""
    ∷ codes "timer = \"first\""
    ∷ codes "[[state]]"
    ∷ codes "name = \"first\""
    ∷ codes "do = [\"add $c a\"]"
    ∷ codes "ok = \"second\""
    ∷ codes "fault = \"idle\""
    ∷ codes "[[state]]"
    ∷ codes "name = \"second\""
    ∷ codes "do = [\"add $c b\"]"
    ∷ codes "ok = \"done\""
    ∷ codes "fault = \"idle\""
    ∷ codes "[[state]]"
    ∷ codes "name = \"done\""
    ∷ codes "end = true"
    ∷ codes "[[state]]"
    ∷ codes "name = \"lost\""
    ∷ []
    )

-- `name_kept`
abbrev pub name_kept : List ℕ
name_kept = text_of (
    codes "lines = [\"a\", \"b\"]"
    ∷ codes "contexts = [\"c\"]"
    ∷ codes "start = \"idle\""
    ∷ codes "restart = \"lost\""
    ∷ codes "[[state]]"
    ∷ codes "name = \"idle\""
    ∷ codes "on.a.of = \"make\""
    ∷ codes "[[state]]"
    ∷ codes "name = \"make\""
    ∷ codes "do = [\"add $c a mode=SendReceive\"]"
    ∷ codes "ok = \"leave\""
    ∷ codes "fault = \"make\""
    ∷ codes "[[state]]"
    ∷ codes "name = \"leave\""
    ∷ codes "do = [\"subtract c a\"]"
    ∷ codes "ok = \"again\""
    ∷ codes "fault = \"leave\""
    ∷ codes "[[state]]"
    ∷ codes "name = \"again\""
    ∷ codes "do = [\"add c a mode=SendReceive\"]"
    ∷ codes "fault = \"again\""
    ∷ codes "[[state]]"
    ∷ codes "name = \"lost\""
    ∷ []
    )

-- `name_stays`
abbrev pub name_stays : List ℕ
name_stays = text_of (
    codes "lines = [\"a\", \"b\"]"
    ∷ codes "contexts = [\"c\", \"d\"]"
    ∷ codes "start = \"idle\""
    ∷ codes "restart = \"refused\""
    ∷ codes "[[state]]"
    ∷ codes "name = \"idle\""
    ∷ codes "timer = \"first\""
    ∷ codes "[[state]]"
    ∷ codes "name = \"first\""
    ∷ codes "do = [\"add $c a\", \"subtract c a\"]"
    ∷ codes "ok = \"second\""
    ∷ codes "fault = \"refused\""
    ∷ codes "[[state]]"
    ∷ codes "name = \"second\""
    ∷ codes "do = [\"add $d a\", \"subtract c a\"]"
    ∷ codes "fault = \"refused\""
    ∷ codes "[[state]]"
    ∷ codes "name = \"refused\""
    ∷ []
    )

-- `dials`
abbrev pub dials : List ℕ
dials = text_of (
    codes "lines = [\"a\", \"b\"]"
    ∷ codes "start = \"idle\""
    ∷ codes "restart = \"idle\""
    ∷ codes "[[events]]"
    ∷ codes "name = \"keys\""
    ∷ codes "list = [\"dd/ce=number\"]"
    ∷ codes "[[maps]]"
    ∷ codes "name = \"number\""
    ∷ codes "map = \"11\""
    ∷ codes "[[state]]"
    ∷ codes "name = \"idle\""
    ∷ codes "on.a.of = \"dial\""
    ∷ codes "[[state]]"
    ∷ codes "name = \"dial\""
    ∷ codes "do = [\"modify - a events=keys\"]"
    ∷ codes "fault = \"stopped\""
    ∷ codes "on.a.full = \"stopped\""
    ∷ codes "[[state]]"
    ∷ codes "name = \"stopped\""
    ∷ []
    )
