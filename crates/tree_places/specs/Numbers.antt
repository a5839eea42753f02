-- Places as numbers of tokens, and trees with such numbers for their places.
use Rattle.std.specs.Prelude.{ℕ, List, nat_lt, count_by, unwrap_or}
use Rattle.std.specs.List.{slice_get}
use Rattle.std.specs.Option.{option_map}
use Rattle.desk_base.specs.declared.span.Span.{Span}
use Rattle.java_tree.specs.declared.token.Token.{Token}
use Rattle.java_tree.specs.declared.member.MemberTree.{MemberTree}
use Rattle.java_heads.specs.declared.header.Header.{Header}
use Rattle.java_members.specs.Spelling.{tokens_of}
use Rattle.tree_places.specs.MovedMember.{moved_member, moved_header}

-- how many of the tokens begin before the place: from 0, the number of the token that stands there
abbrev pub number_of : List Token → Span → ℕ
number_of tokens at = count_by (λ t. nat_lt t.span.start at.start) tokens

-- a number in the place of a span
abbrev pub number_span : ℕ → Span
number_span n = record { start = n; end = n }

-- the number that stands in the place of a span
abbrev pub span_number : Span → ℕ
span_number at = at.start

-- a place as the number of its token
abbrev pub numbered_span : List Token → Span → Span
numbered_span tokens at = number_span (number_of tokens at)

-- the member with numbers among its own tokens for its places
abbrev pub numbered_member : MemberTree → MemberTree
numbered_member m = moved_member (numbered_span (tokens_of m)) m

-- the same of a header
abbrev pub numbered_header : Header → Header
numbered_header h = moved_header (numbered_span h.tokens) h

-- ---- back to places

-- the place of the token of this number
abbrev pub place_of : List Token → ℕ → Span
place_of tokens n = unwrap_or (option_map (λ (t : Token). t.span) (slice_get tokens n)) (number_span n)

-- the span of the token whose number stands in its place
abbrev pub placed_span : List Token → Span → Span
placed_span tokens at = place_of tokens (span_number at)

abbrev pub placed_member : List Token → MemberTree → MemberTree
placed_member tokens = moved_member (placed_span tokens)

abbrev pub placed_header : List Token → Header → Header
placed_header tokens = moved_header (placed_span tokens)
