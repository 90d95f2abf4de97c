use Rattle.test_valid.proofs.valid.is_valid_body.Goals as goal

pub returns : goal.returns
returns c =
    let head = c.has_valid_head.ensures.0 c.if-not-has_valid_head.false in
    let frame = c.has_valid_frame.ensures.0 c.if-not-has_valid_frame.false in (
      λ e.
          let list = c.has_valid_list.ensures.0 e in
          record {
            process = head.0;
            plain = head.1;
            name = head.2;
            names = head.3;
            frame = frame.0;
            cells = frame.1;
            params = frame.2;
            order = list.0;
            top = list.1;
            ending = list.2;
          },
      λ v. c.has_valid_list.ensures.1 (v.order, v.top, v.ending),
    )
