-- What C is answered to the check of a header on its link (M4).
use Rattle.link_continuity.specs.declared.LinkCheck.{LinkCheck}
use Rattle.doors_links.specs.declared.PlainLinkCheck.{PlainLinkCheck}

-- C's struct for it: each field is the one of its name.
abbrev pub plain_link_check : LinkCheck → PlainLinkCheck
plain_link_check c =
    record { packet_counter = c.packet_counter; pages_counter = c.pages_counter; orbit = c.orbit; distance = c.distance }
