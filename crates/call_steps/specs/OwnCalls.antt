-- The calls that the language has, each by its text.
use Rattle.std.specs.Prelude.{ℕ, List, [], ◌∷◌, Option, Some, None, codes, if◌then◌else◌}
use Rattle.std.specs.Str.{bytes_eq}
use Rattle.oc_values.specs.declared.integers.IntKind.TheVariants.{Bool as KBool, I8, U8, I16, U16, I32, U32, I64, U64}
use Rattle.type_rules.specs.declared.judging.OwnCall.{OwnCall}
use Rattle.type_rules.specs.declared.judging.OwnCall.TheVariants as call

-- the bytes that spell a call, none where it has no name
abbrev pub call_text : OwnCall → List ℕ
call_text call.Private = codes "ocPrivate"
call_text (call.Feed KBool) = codes "feedOblivBool"
call_text (call.Feed I8) = codes "feedOblivChar"
call_text (call.Feed I16) = codes "feedOblivShort"
call_text (call.Feed I32) = codes "feedOblivInt"
call_text (call.Feed I64) = codes "feedOblivLLong"
call_text (call.Feed U8) = []
call_text (call.Feed U16) = []
call_text (call.Feed U32) = []
call_text (call.Feed U64) = []
call_text (call.Reveal KBool) = codes "revealOblivBool"
call_text (call.Reveal I8) = codes "revealOblivChar"
call_text (call.Reveal I16) = codes "revealOblivShort"
call_text (call.Reveal I32) = codes "revealOblivInt"
call_text (call.Reveal I64) = codes "revealOblivLLong"
call_text (call.Reveal U8) = []
call_text (call.Reveal U16) = []
call_text (call.Reveal U32) = []
call_text (call.Reveal U64) = []
call_text call.Result = codes "ocResult"
call_text call.PrivateCount = codes "ocPrivateCount"
call_text call.PublicCount = codes "ocPublicCount"
call_text call.Public = codes "ocPublic"
call_text call.Printf = codes "printf"
call_text call.Calloc = codes "calloc"
call_text call.Malloc = codes "malloc"
call_text call.Free = codes "free"

-- the calls that have a name
abbrev pub named_calls : List OwnCall
named_calls =
    call.Private ∷ call.Feed KBool ∷ call.Feed I8 ∷ call.Feed I16 ∷ call.Feed I32 ∷ call.Feed I64
    ∷ call.Reveal KBool ∷ call.Reveal I8 ∷ call.Reveal I16 ∷ call.Reveal I32 ∷ call.Reveal I64
    ∷ call.Result ∷ call.PrivateCount ∷ call.PublicCount ∷ call.Public ∷ call.Printf ∷ call.Calloc ∷ call.Malloc ∷ call.Free ∷ []

-- the call among these whose text this is
abbrev pub find_call : List OwnCall → List ℕ → Option OwnCall
find_call [] word = None
find_call (c ∷ cs) word = if bytes_eq word (call_text c) then Some c else find_call cs word
