-- What a group takes in memory.
use Rattle.std.specs.Prelude.{◌≡◌, ◌≤◌, [], length, vec_capacity}
use Rattle.kfs_server.specs.declared.serving.room.Room.{Room}
use Rattle.kfs_server.specs.declared.serving.room.Said.{Said}

module _ {B : Type 0} where
  -- there is room for the replies to a whole group
  pub record IsAmpleSaid (said : Said B) : Type 0 where
    pub replies : 65536 ≤ vec_capacity said.replies
    pub text : 1900544 ≤ vec_capacity said.text

  -- and nothing is said yet
  pub record IsUnsaid (said : Said B) : Type 0 where
    pub ample : IsAmpleSaid said
    pub no_replies : said.replies.items ≡ []
    pub no_text : said.text.items ≡ []

  -- there is room for a whole group, too
  pub record IsAmple (room : Room B) : Type 0 where
    pub group : 65536 ≤ vec_capacity room.group
    pub said : IsAmpleSaid room.said

  -- and a group is there that isn't answered yet
  pub record HasRoom (room : Room B) : Type 0 where
    pub ample : IsAmple room
    pub few : length room.group.items ≤ 65536
    pub unsaid : IsUnsaid room.said

  -- and nothing is there
  pub record IsRoom (room : Room B) : Type 0 where
    pub ample : IsAmple room
    pub no_group : room.group.items ≡ []
    pub unsaid : IsUnsaid room.said
