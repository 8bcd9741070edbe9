use Rattle.std.proofs.Common.{rules, ◌≡◌, ◌++◌, List, ℕ, codes, append_assoc}
use Rattle.std.specs.Fmt.{decimal}
use Rattle.http_front.specs.Reply.{ending, own_field, status_line}
use Rattle.http_front.proofs.reply.write_head.Goals as goal

joined : (before line field name digits ending a b c d e : List ℕ) → a ≡ before ++ line → b ≡ a ++ field → c ≡ b ++ name → d ≡ c ++ digits → e ≡ d ++ ending → e ≡ before ++ ((line ++ (field ++ name)) ++ (digits ++ ending))
joined before line field name digits ending a b c d e is_a is_b is_c is_d is_e = rw (is_e, is_d, is_c, is_b, is_a) (simp append_assoc)

pub returns-clause-ok : goal.returns-clause-ok
returns-clause-ok c =
    let one : c.append_status_line.new.output.items ≡ c.args.output.now.items ++ status_line c.args.status = search rules in
    let two : c.append.new.output.items ≡ c.append_status_line.new.output.items ++ own_field c.args.status = search rules in
    let three : c.append-2.new.output.items ≡ c.append.new.output.items ++ codes "Content-Length: " = search rules in
    let four : c.append-3.new.output.items ≡ c.append-2.new.output.items ++ decimal c.args.length = search rules in
    let five : c.append-4.new.output.items ≡ c.append-3.new.output.items ++ ending c.args.closes = search rules in
    joined _ _ _ _ _ _ _ _ _ _ _ one two three four five
