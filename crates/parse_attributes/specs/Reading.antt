-- How attributes are read: what is taken and what lies ahead then, or why reading stops.
use Rattle.std.specs.Prelude.{ℕ, zero, suc, List, [], ◌∷◌, length, Bool, true, false, Option, Some, None, Result, Ok, Err, codes, if◌then◌else◌}
use Rattle.std.specs.Str.{bytes_eq}
use Rattle.just_text.specs.Tokens.{Word}
use Rattle.just_text.specs.declared.compile_error.CompileErrorKind.TheVariants as kinds
use Rattle.just_text.specs.declared.token_kind.TokenKind.TheVariants.{BracketL, BracketR, Colon, Comment, Eol, Equals, Identifier, ParenL, ParenR}
use Rattle.tree_attributes.specs.declared.attribute.AttributeKind.{AttributeKind}
use Rattle.tree_attributes.specs.declared.attribute.AttributeKind.TheVariants.{Android, Arg, Cache, Confirm, Default, Doc, Dragonfly, Env, ExitMessage, Extension, Freebsd, Group, Linux, Macos, Metadata, Netbsd, NoCd, NoExitMessage, NoQuiet, Openbsd, Parallel, PositionalArguments, Private, Script, Unix, Windows, WorkingDirectory}
use Rattle.tree_attributes.specs.Attributes.{AttributeShape}
use Rattle.tree_expressions.specs.Shape.{Shape}
use Rattle.tree_attributes.specs.Forms.{form_of, takes}
use Rattle.tree_attributes.specs.Kinds.{named}
use Rattle.parse_expressions.specs.Literals.{Expansion}
use Rattle.parse_expressions.specs.Reading.{◌>>=◌, on, Read, Stop, unexpected, refused, first, accept, expect, expression_at}
use Rattle.parse_expressions.specs.Rows.{more_at}
use Rattle.parse_expressions.specs.Strings.{string_at}
use Rattle.parse_attributes.specs.Lines.{behind_comments}
use Rattle.parse_attributes.specs.Options.{OptionShape, flag, multiple, long, help, max, min, short, value}
use Rattle.parse_attributes.specs.Arguments.{Sort, of_strings, of_expressions, of_parameter, sort_of, Arguments, nothing, strings, expressions, parameter, count, lone, made}

-- all kinds of attributes
abbrev pub all_kinds : List AttributeKind
all_kinds =
    Android ∷ Arg ∷ Cache ∷ Confirm ∷ Default ∷ Doc ∷ Dragonfly ∷ Env ∷ ExitMessage ∷ Extension ∷ Freebsd ∷ Group ∷ Linux ∷ Macos ∷ Metadata ∷ Netbsd ∷ NoCd ∷ NoExitMessage ∷ NoQuiet ∷ Openbsd ∷ Parallel ∷ PositionalArguments
    ∷ Private ∷ Script ∷ Unix ∷ Windows ∷ WorkingDirectory ∷ []

-- the kind of attribute with that name, if there is one
abbrev pub kind_named : List ℕ → Option AttributeKind
kind_named name = named name all_kinds

module _ {T : Type 0} (word : T → Word) where
  -- Items as long as more come. The number bounds the turns, for which the count of the tokens is always enough.
  unfoldable pub follow_at : {A : Type 0} → (List T → Read T A) → (List T → Read T Bool) → ℕ → List T → Read T (List A)
  follow_at item more zero ts = Err (unexpected (first ts))
  follow_at item more (suc n) ts =
      more ts >>= λ m. if m.0 then (item m.1 >>= λ x. follow_at item more n x.1 >>= λ xs. Ok (x.0 ∷ xs.0, xs.1)) else Ok ([], m.1)

  -- what follows the end of a line, perhaps after a comment, and the comment lines after it
  unfoldable pub line_end_at : List T → Result (List T) (Stop T)
  line_end_at ts = expect word Eol (on (accept word Comment ts) ts (λ c. c.1)) >>= λ e. Ok (behind_comments word e.1)

  -- whether another attribute comes: after a comma, or in brackets on a line of its own
  unfoldable pub another_at : List T → Read T Bool
  another_at ts =
      more_at word BracketR ts >>= λ m. if m.0 then Ok m else
      line_end_at m.1 >>= λ rest. on (accept word BracketL rest) (Ok (false, rest)) (λ o. Ok (true, o.1))

  module _ (expansion : Expansion) where
    abbrev pub whole_at : List T → Read T Shape
    whole_at ts = expression_at word expansion 256 6 ts

    abbrev pub text_at : List T → Read T (List ℕ)
    text_at ts = string_at word expansion ts

    -- ---- options

    -- `=` and a string
    unfoldable pub assigned_at : List T → Read T (List ℕ)
    assigned_at ts = expect word Equals ts >>= λ q. text_at q.1

    -- a name after `=`, or none
    unfoldable pub long_at : List T → Read T (Option (List ℕ))
    long_at ts = on (accept word Equals ts) (Ok (None, ts)) (λ q. text_at q.1 >>= λ s. Ok (Some s.0, s.1))

    -- `=` and an expression
    unfoldable pub value_at : List T → Read T Shape
    value_at ts = expect word Equals ts >>= λ q. whole_at q.1

    -- what stands after the name of an option that is not known
    unfoldable pub unknown_at : List T → Result (List T) (Stop T)
    unknown_at ts = on (accept word Equals ts) (Ok ts) (λ q. whole_at q.1 >>= λ e. Ok e.1)

    -- the option of that name, if it is known
    unfoldable pub named_at : List ℕ → List T → Read T (Option OptionShape)
    named_at name ts =
        if bytes_eq name (codes "flag") then Ok (Some flag, ts)
        else if bytes_eq name (codes "multiple") then Ok (Some multiple, ts)
        else if bytes_eq name (codes "long") then (long_at ts >>= λ l. Ok (Some (long l.0), l.1))
        else if bytes_eq name (codes "help") then (assigned_at ts >>= λ s. Ok (Some (help s.0), s.1))
        else if bytes_eq name (codes "max") then (assigned_at ts >>= λ s. Ok (Some (max s.0), s.1))
        else if bytes_eq name (codes "min") then (assigned_at ts >>= λ s. Ok (Some (min s.0), s.1))
        else if bytes_eq name (codes "short") then (assigned_at ts >>= λ s. Ok (Some (short s.0), s.1))
        else if bytes_eq name (codes "value") then (value_at ts >>= λ e. Ok (Some (value e.0), e.1))
        else (unknown_at ts >>= λ rest. Ok (None, rest))

    unfoldable pub option_at : List T → Read T (Option OptionShape)
    option_at ts = expect word Identifier ts >>= λ t. named_at (word t.0).text t.1

    -- ---- arguments

    -- items after the first, up to a closing parenthesis
    abbrev pub others_at : {A : Type 0} → (List T → Read T A) → List T → Read T (List A)
    others_at item ts = follow_at item (more_at word ParenR) (suc (length ts)) ts

    -- arguments of that sort, one or more, and a closing parenthesis
    unfoldable pub inside_at : Sort → List T → Read T Arguments
    inside_at of_strings ts = text_at ts >>= λ s. others_at text_at s.1 >>= λ ss. Ok (strings s.0 ss.0, ss.1)
    inside_at of_expressions ts = whole_at ts >>= λ e. others_at whole_at e.1 >>= λ es. Ok (expressions e.0 es.0, es.1)
    inside_at of_parameter ts = text_at ts >>= λ s. others_at option_at s.1 >>= λ os. Ok (parameter s.0 os.0, os.1)

    -- arguments of that sort, or nothing
    unfoldable pub arguments_at : Sort → List T → Read T Arguments
    arguments_at sort ts =
        on (accept word ParenL ts)
        (on (accept word Colon ts) (Ok (nothing, ts)) (λ c. text_at c.1 >>= λ s. Ok (lone sort s.0, s.1)))
        (λ o. inside_at sort o.1)

    -- ---- attributes

    -- the attribute, if it takes so many arguments; the token is its name
    abbrev pub counted : T → AttributeKind → Arguments → List T → Read T (Option AttributeShape)
    counted t kind arguments ts =
        if takes (form_of kind) (count arguments) then Ok (made expansion kind arguments, ts) else Err (refused t (kinds.AttributeArgumentCount (word t).text (count arguments)))

    -- the attribute of that kind, if there is one
    unfoldable pub known_at : T → Option AttributeKind → List T → Read T (Option AttributeShape)
    known_at t None ts = Err (refused t (kinds.UnknownAttribute (word t).text))
    known_at t (Some kind) ts = arguments_at (sort_of (form_of kind)) ts >>= λ as'. counted t kind as'.0 as'.1

    -- an attribute; none where its options may not stand together, or one is not known
    unfoldable pub attribute_at : List T → Read T (Option AttributeShape)
    attribute_at ts = expect word Identifier ts >>= λ t. known_at t.0 (kind_named (word t.0).text) t.1

    -- the attributes of all lines
    unfoldable pub attributes_at : List T → Read T (List (Option AttributeShape))
    attributes_at ts =
        on (accept word BracketL ts) (Ok ([], ts))
        (λ o. attribute_at o.1 >>= λ x. follow_at attribute_at another_at (suc (length x.1)) x.1 >>= λ xs. Ok (x.0 ∷ xs.0, xs.1))
