-- What a pull moves out of a file in memory.
use Rattle.std.proofs.Common.{◌≡◌, ℕ, ◌+◌, ◌<◌, min, List, [], ◌++◌, take, drop, length, Option, None, Some, unwrap_or, sym, ap, ◌∙◌, arith, take-append-drop, length-drop}
use Rattle.std.specs.Option.{option_map}
use Rattle.std.specs.Io.KnownBytes.{Consumes, IsAtEnd}
use Rattle.std.proofs.lemmas.List.{drop-drop, drop_all}

-- the bytes that were moved are consumed
pub consumes_held : (held : Option (List ℕ)) (taken count : ℕ) (moved : List ℕ) → moved ≡ take count (drop taken (unwrap_or held []))
    → Consumes (option_map (λ bytes. drop taken bytes) held) (option_map (λ bytes. drop (taken + count) bytes) held) moved
consumes_held None taken count moved is = tt
consumes_held (Some bytes) taken count moved is =
    sym (take-append-drop count (drop taken bytes)) ∙ ap (λ l. l ++ drop count (drop taken bytes)) (sym is) ∙ ap (λ l. moved ++ l) (drop-drop count taken bytes)

-- where nothing was moved into some room, nothing was left
pub ends_held : (held : Option (List ℕ)) (taken count room : ℕ) → count ≡ min (length (drop taken (unwrap_or held []))) room → count ≡ 0 → 0 < room
    → IsAtEnd (option_map (λ bytes. drop (taken + count) bytes) held)
ends_held None taken count room is none some = tt
ends_held (Some bytes) taken count room is none some =
    let few = length-drop taken bytes in
    drop_all (taken + count) bytes (omega arith)
