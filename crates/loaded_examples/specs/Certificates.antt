-- The bytes of the certificates of the examples, as the files of the repository have them (`tools/gate/texts`). A reader should see that they are what one would
-- write for the entries of `mg_examples`.
use Rattle.std.specs.Prelude.{ℕ, List, [], ◌∷◌, codes}
use Rattle.loaded_examples.specs.Lines.{text_of}

-- `reachable`
abbrev pub reachable : List ℕ
reachable = text_of (
    codes "{\"version\":2,\"entries\":["
    ∷ codes "{\"state\":\"idle\",\"link\":[\"ok\",\"rest\"],\"lines\":{\"a\":{\"events\":[\"none\"]},\"b\":{\"events\":[\"none\"]}}},"
    ∷ codes "{\"state\":\"idle\",\"link\":[\"rest\"]},"
    ∷ codes "{\"state\":\"talk\",\"link\":[\"sent\",\"fault\"]},"
    ∷ codes "{\"state\":\"talk\",\"link\":[\"fault\"],\"lines\":{\"a\":{\"at\":[\"c\"],\"mode\":[\"SendReceive\"]}},\"contexts\":{\"c\":[\"live\"]}},"
    ∷ codes "{\"state\":\"talk\",\"link\":[\"ok\",\"rest\"],"
    ∷ codes " \"lines\":{\"a\":{\"at\":[\"c\"],\"mode\":[\"SendReceive\"]},\"b\":{\"at\":[\"c\"],\"mode\":[\"SendReceive\"]}},"
    ∷ codes " \"contexts\":{\"c\":[\"live\"]}},"
    ∷ codes "{\"state\":\"stopped\",\"link\":[\"ok\",\"rest\"]},"
    ∷ codes "{\"state\":\"stopped\",\"link\":[\"ok\",\"rest\"],"
    ∷ codes " \"lines\":{\"a\":{\"at\":[\"c\"],\"mode\":[\"SendReceive\"]}},"
    ∷ codes " \"contexts\":{\"c\":[\"live\"]}}"
    ∷ codes "]}"
    ∷ []
    )

-- `after_a_restart`
abbrev pub after_a_restart : List ℕ
after_a_restart = text_of (
    codes "{\"version\":2,\"entries\":["
    ∷ codes "{\"state\":\"idle\",\"link\":[\"ok\",\"rest\"],\"lines\":{\"a\":{\"events\":[\"none\"]},\"b\":{\"events\":[\"none\"]}}}"
    ∷ codes "]}"
    ∷ []
    )

-- `at_rest`
abbrev pub at_rest : List ℕ
at_rest = text_of (
    codes "{\"version\":2,\"entries\":["
    ∷ codes "{\"state\":\"idle\",\"link\":[\"rest\"]}"
    ∷ codes "]}"
    ∷ []
    )

-- `in_idle`
abbrev pub in_idle : List ℕ
in_idle = text_of (
    codes "{\"version\":2,\"entries\":["
    ∷ codes "{\"state\":\"idle\",\"link\":[\"ok\",\"rest\"],\"lines\":{\"a\":{\"events\":[\"none\"]},\"b\":{\"events\":[\"none\"]}}},"
    ∷ codes "{\"state\":\"idle\",\"link\":[\"rest\"]}"
    ∷ codes "]}"
    ∷ []
    )

-- `renewing_entries`
abbrev pub renewing : List ℕ
renewing = text_of (
    codes "{\"version\":2,\"entries\":["
    ∷ codes "{\"state\":\"ready\",\"link\":[\"rest\"]},"
    ∷ codes "{\"state\":\"talk\",\"link\":[\"sent\",\"fault\"]},"
    ∷ codes "{\"state\":\"talk\",\"link\":[\"fault\"],\"lines\":{\"a\":{\"at\":[\"c\"],\"mode\":[\"SendReceive\"]}},\"contexts\":{\"c\":[\"live\"]}},"
    ∷ codes "{\"state\":\"talk\",\"link\":[\"ok\",\"rest\"],"
    ∷ codes " \"lines\":{\"a\":{\"at\":[\"c\"],\"mode\":[\"SendReceive\"]},\"b\":{\"at\":[\"c\"],\"mode\":[\"SendReceive\"]}},"
    ∷ codes " \"contexts\":{\"c\":[\"live\"]}},"
    ∷ codes "{\"state\":\"stopped\",\"link\":[\"ok\",\"rest\"],\"lines\":{\"a\":{\"events\":[\"none\"]},\"b\":{\"events\":[\"none\"]}}},"
    ∷ codes "{\"state\":\"stopped\",\"link\":[\"ok\",\"rest\"]},"
    ∷ codes "{\"state\":\"stopped\",\"link\":[\"ok\",\"rest\"],"
    ∷ codes " \"lines\":{\"a\":{\"at\":[\"c\"],\"mode\":[\"SendReceive\"]}},"
    ∷ codes " \"contexts\":{\"c\":[\"live\"]}},"
    ∷ codes "{\"state\":\"done\",\"link\":[\"ok\",\"rest\"]}"
    ∷ codes "]}"
    ∷ []
    )

-- `unarmed_entries`
abbrev pub unarmed : List ℕ
unarmed = text_of (
    codes "{\"version\":2,\"entries\":["
    ∷ codes "{\"state\":\"idle\",\"link\":[\"rest\"]},"
    ∷ codes "{\"state\":\"done\",\"link\":[\"ok\",\"rest\"],\"lines\":{\"a\":{\"events\":[\"none\"]},\"b\":{\"events\":[\"none\"]}}}"
    ∷ codes "]}"
    ∷ []
    )

-- `created_twice_entries`
abbrev pub created_twice : List ℕ
created_twice = text_of (
    codes "{\"version\":2,\"entries\":["
    ∷ codes "{\"state\":\"idle\",\"link\":[\"ok\",\"rest\"]},"
    ∷ codes "{\"state\":\"first\",\"link\":[\"sent\",\"fault\"]},"
    ∷ codes "{\"state\":\"first\",\"link\":[\"ok\"],\"lines\":{\"a\":{\"at\":[\"c\"]}},\"contexts\":{\"c\":[\"live\"]}},"
    ∷ codes "{\"state\":\"second\",\"link\":[\"sent\"],\"lines\":{\"a\":{\"at\":[\"c\"]}},\"contexts\":{\"c\":[\"live\"]}},"
    ∷ codes "{\"state\":\"lost\",\"link\":[\"ok\",\"rest\"],\"lines\":{\"a\":{\"events\":[\"none\"]},\"b\":{\"events\":[\"none\"]}}}"
    ∷ codes "]}"
    ∷ []
    )

-- `name_kept_entries`
abbrev pub name_kept : List ℕ
name_kept = text_of (
    codes "{\"version\":2,\"entries\":["
    ∷ codes "{\"state\":\"idle\",\"link\":[\"rest\"]},"
    ∷ codes "{\"state\":\"make\",\"link\":[\"sent\",\"fault\"]},"
    ∷ codes "{\"state\":\"make\",\"link\":[\"ok\"],\"lines\":{\"a\":{\"at\":[\"c\"],\"mode\":[\"SendReceive\"]}},\"contexts\":{\"c\":[\"live\"]}},"
    ∷ codes "{\"state\":\"leave\",\"link\":[\"sent\",\"fault\"],"
    ∷ codes " \"lines\":{\"a\":{\"at\":[\"c\"],\"mode\":[\"SendReceive\"]}},"
    ∷ codes " \"contexts\":{\"c\":[\"live\"]}},"
    ∷ codes "{\"state\":\"leave\",\"link\":[\"ok\"],\"lines\":{\"a\":{\"events\":[\"none\"]}},\"contexts\":{\"c\":[\"stale\"]}},"
    ∷ codes "{\"state\":\"again\",\"link\":[\"sent\",\"fault\"],\"lines\":{\"a\":{\"events\":[\"none\"]}},\"contexts\":{\"c\":[\"stale\"]}},"
    ∷ codes "{\"state\":\"lost\",\"link\":[\"ok\",\"rest\"],\"lines\":{\"a\":{\"events\":[\"none\"]},\"b\":{\"events\":[\"none\"]}}}"
    ∷ codes "]}"
    ∷ []
    )

-- `dial_entries`
abbrev pub dials : List ℕ
dials = text_of (
    codes "{\"version\":2,\"entries\":["
    ∷ codes "{\"state\":\"idle\",\"link\":[\"ok\",\"rest\"],\"lines\":{\"a\":{\"events\":[\"none\"]},\"b\":{\"events\":[\"none\"]}}},"
    ∷ codes "{\"state\":\"idle\",\"link\":[\"rest\"]},"
    ∷ codes "{\"state\":\"dial\",\"link\":[\"sent\",\"fault\"]},"
    ∷ codes "{\"state\":\"dial\",\"link\":[\"ok\",\"rest\"],\"lines\":{\"a\":{\"events\":[\"keys\"]}}},"
    ∷ codes "{\"state\":\"stopped\",\"link\":[\"ok\",\"rest\"]},"
    ∷ codes "{\"state\":\"stopped\",\"link\":[\"ok\",\"rest\"],\"lines\":{\"a\":{\"events\":[\"keys\"]}}}"
    ∷ codes "]}"
    ∷ []
    )
