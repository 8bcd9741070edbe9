use Rattle.std.proofs.Common.{rules, ◌≡◌, ◌++◌, List, ℕ, codes, append_assoc}
use Rattle.http.specs.StatusCode.{code_digits}
use Rattle.http_front.specs.Reply.{phrase}
use Rattle.http_front.proofs.reply.append_status_line.Goals as goal

joined : (before version digits space reason line_end a b c d e : List ℕ) → a ≡ before ++ version → b ≡ a ++ digits → c ≡ b ++ space → d ≡ c ++ reason → e ≡ d ++ line_end → e ≡ before ++ (version ++ (digits ++ (space ++ (reason ++ line_end))))
joined before version digits space reason line_end a b c d e is_a is_b is_c is_d is_e = rw (is_e, is_d, is_c, is_b, is_a) (simp append_assoc)

pub returns-clause-appended : goal.returns-clause-appended
returns-clause-appended c =
    let one : c.append.new.output.items ≡ c.args.output.now.items ++ codes "HTTP/1.1 " = search rules in
    let two : c.append-2.new.output.items ≡ c.append.new.output.items ++ code_digits c.args.status = search rules in
    let three : c.append-3.new.output.items ≡ c.append-2.new.output.items ++ codes " " = search rules in
    let four : c.append-4.new.output.items ≡ c.append-3.new.output.items ++ phrase c.args.status = search rules in
    let five : c.append-5.new.output.items ≡ c.append-4.new.output.items ++ codes "\r\n" = search rules in
    joined _ _ _ _ _ _ _ _ _ _ _ one two three four five
